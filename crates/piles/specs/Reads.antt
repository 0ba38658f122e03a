-- Reads of a head in turn, one after another, whatever it is made of. Assumes nothing.
use Rattle.std.specs.Prelude.{◌≡◌, ℕ, ◌-◌, ◌*◌, Bool, true, false, List, [], ◌∷◌, ◌++◌, map, length, take, replicate, Err, Result}
use Rattle.heads.specs.declared.faults.HeadFault.{HeadFault}
use Rattle.heads.specs.declared.faults.HeadFault.TheVariants.{Unfit, End}
use Rattle.heads.specs.Answers.{answered, Reads}
use Rattle.heads.specs.Channels.{Channel}
use Rattle.heads.specs.Entries.{Entry}
use Rattle.piles.specs.Piles.{Layer, pile, takes, less}

-- a head that means c is read again and again, gives these answers in turn, and then means d
abbrev pub ReadsOn : (c : Channel) → List (Result ℕ HeadFault) → (d : Channel) → Type 0
ReadsOn c [] d = d ≡ c
ReadsOn c (r ∷ rs) d = (e : Channel) × Reads c.figures c.waits r e.figures e.waits × ReadsOn e rs d

-- n answers: the first n entries and then the end, or each time that the head is unfit
abbrev pub in_turn : (fit : Bool) (depth n : ℕ) → List Entry → List (Result ℕ HeadFault)
in_turn true d n w = map answered (take n w) ++ replicate (n - length w) (Err End)
in_turn false d n w = replicate n (Err (Unfit d))

-- so many reads of any head answer this, change no figures and leave what comes after
abbrev pub ReadInTurn : Type 0
ReadInTurn = (c d : Channel) (rs : List (Result ℕ HeadFault)) → ReadsOn c rs d → (rs ≡ in_turn c.figures.fit c.figures.depth (length rs) c.waits) × (d ≡ less (length rs) c)

-- how many entries of its foot one read of a pile takes
abbrev pub all_take : List Layer → ℕ
all_take [] = 1
all_take (l ∷ ls) = all_take ls * takes l

-- after so many reads any pile is the pile over its foot, less the entries of those reads
abbrev pub PilesAdvance : Type 0
PilesAdvance = (foot d : Channel) (layers : List Layer) (rs : List (Result ℕ HeadFault)) → ReadsOn (pile foot layers) rs d → d ≡ pile (less (length rs * all_take layers) foot) layers
