-- What a read answers and leaves, and each fault's number. Assumes nothing.
use Rattle.std.specs.Prelude.{◌≡◌, ℕ, Bool, true, false, List, [], ◌∷◌, Ok, Err, Result}
use Rattle.records.specs.declared.faults.Fault.{Fault}
use Rattle.heads.specs.declared.faults.HeadFault.{HeadFault}
use Rattle.heads.specs.declared.faults.HeadFault.TheVariants.{Unfit, End, Dark, Wild, Spread}
use Rattle.heads.specs.declared.plates.Figures.{Figures}
use Rattle.heads.specs.Entries.{Kind, dark, wild, spread, Entry, reading, faulty}

-- number, channel, depth and the two figures
abbrev numbered : (n k d a b : ℕ) → Fault
numbered n k d a b = record { code = n; channel = k; depth = d; first = a; second = b }

abbrev pub head_fault : (k : ℕ) → HeadFault → Fault
head_fault k (Unfit d) = numbered 21 k d 0 0
head_fault k End = numbered 22 k 0 0 0
head_fault k (Dark d a b) = numbered 24 k d a b
head_fault k (Wild d a b) = numbered 25 k d a b
head_fault k (Spread d a b) = numbered 26 k d a b

abbrev pub fault_of : Kind → (d a b : ℕ) → HeadFault
fault_of dark d a b = Dark d a b
fault_of wild d a b = Wild d a b
fault_of spread d a b = Spread d a b

-- what an entry answers when it is read
abbrev pub answered : Entry → Result ℕ HeadFault
answered (reading r) = Ok r
answered (faulty k d a b) = Err (fault_of k d a b)

-- what a head with this list answers: unfit, the end, or its first entry
abbrev pub first_answer : List Entry → Result ℕ HeadFault
first_answer [] = Err End
first_answer (e ∷ w) = answered e

abbrev pub answer_of : Bool → (d : ℕ) → List Entry → Result ℕ HeadFault
answer_of false d w = Err (Unfit d)
answer_of true d w = first_answer w

-- what a plate's fitness check answers: its figures, or that it is unfit with the depth that it tells
abbrev pub checked : Bool → Figures → Result Figures HeadFault
checked true f = Ok f
checked false f = Err (Unfit f.depth)

-- what waits once the first entry is taken
abbrev pub rest : List Entry → List Entry
rest [] = []
rest (e ∷ w) = w

-- a head of figures f and waiting list w is read, answers r, and then has figures g and waiting list v
pub record Reads (f : Figures) (w : List Entry) (r : Result ℕ HeadFault) (g : Figures) (v : List Entry) : Type 0 where
  pub same : g ≡ f
  pub answers : r ≡ answer_of f.fit f.depth w
  pub leaves : v ≡ rest w
