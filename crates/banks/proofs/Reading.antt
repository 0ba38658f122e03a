-- One channel of a list is read: what stays, what the others are, and what holds of its answer.
use Rattle.std.proofs.Common.{◌≡◌, ℕ, zero, suc, ◌<◌, ◌≤◌, Bool, true, false, ◌≢◌, List, [], ◌∷◌, length, Some, None, Ok, Option, Result, sym, refl, ap, ◌∙◌, arith}
use Rattle.std.proofs.lemmas.Option.{slice_get_past}
use Rattle.heads.specs.declared.plates.Figures.{Figures}
use Rattle.heads.specs.Answers.{answer_of}
use Rattle.heads.specs.Channels.{Channel}
use Rattle.heads.specs.Entries.{Entry, reading, faulty, AllBelow}
use Rattle.heads.specs.Laws.{Lawful}
use Rattle.banks.specs.declared.faults.BankFault.{BankFault}
use Rattle.banks.specs.Banks.{channel_at, channel_figures, channel_answer, channel_rest, told_by, answered_by, of_channel, read_on, AllLawful, BankReads}
use Rattle.banks.specs.OneRead.{ReadAsHead, OneRead, ReadingBelow}

pub rest_length : (k : ℕ) (cs : List Channel) → length (channel_rest k cs) ≡ length cs
rest_length k [] = refl
rest_length zero (c ∷ cs) = refl
rest_length (suc k) (c ∷ cs) = ap suc (rest_length k cs)

-- every other channel stays
pub at_other : (j k : ℕ) (cs : List Channel) → j ≢ k → channel_at j (channel_rest k cs) ≡ channel_at j cs
at_other j k [] h = refl
at_other zero zero (c ∷ cs) h = absurd (h refl)
at_other zero (suc k) (c ∷ cs) h = refl
at_other (suc j) zero (c ∷ cs) h = refl
at_other (suc j) (suc k) (c ∷ cs) h = at_other j k cs (λ e. h (ap suc e))

-- a channel that is there loses its first entry
pub at_here : (k : ℕ) (cs : List Channel) (c : Channel) → channel_at k cs ≡ Some c → channel_at k (channel_rest k cs) ≡ Some (read_on c)
at_here k [] c e = cc
at_here zero (b ∷ cs) c e = let s : b ≡ c = cc in ap (λ x. Some (read_on x)) s
at_here (suc k) (b ∷ cs) c e = at_here k cs c e

pub at_some : (k : ℕ) (cs : List Channel) → k < length cs → (c : Channel) × (channel_at k cs ≡ Some c)
at_some k [] h = absurd (omega arith)
at_some zero (c ∷ cs) h = (c, refl)
at_some (suc k) (c ∷ cs) h = at_some k cs (omega arith)

-- past the last channel nothing changes

pub rest_none : (k : ℕ) (cs : List Channel) → length cs ≤ k → channel_rest k cs ≡ cs
rest_none k [] h = refl
rest_none zero (c ∷ cs) h = absurd (omega arith)
rest_none (suc k) (c ∷ cs) h = ap (λ l. c ∷ l) (rest_none k cs (omega arith))

-- no read changes figures
pub figures_stay : (j k : ℕ) (cs : List Channel) → channel_figures j (channel_rest k cs) ≡ channel_figures j cs
figures_stay j k cs = told_stays j j k cs where
  told_stays : (i j k : ℕ) (cs : List Channel) → told_by i (channel_at j (channel_rest k cs)) ≡ told_by i (channel_at j cs)
  told_stays i j k [] = refl
  told_stays i zero zero (c ∷ cs) = refl
  told_stays i zero (suc k) (c ∷ cs) = refl
  told_stays i (suc j) zero (c ∷ cs) = refl
  told_stays i (suc j) (suc k) (c ∷ cs) = told_stays i j k cs

read_here : (k : ℕ) (c : Channel) (r : Result ℕ BankFault) → r ≡ answered_by k (Some c) → ReadAsHead k c r (read_on c)
read_here k c r e = record { answer = answer_of c.figures.fit c.figures.depth c.waits; reads = record { same = refl; answers = refl; leaves = refl }; told = e }

pub one_read : (cs : List Channel) (k : ℕ) (r : Result ℕ BankFault) (ds : List Channel) → BankReads cs k r ds → OneRead cs k r ds
one_read cs k r ds b = record {
  as_many = ap length b.leaves ∙ rest_length k cs;
  others = λ j h. ap (channel_at j) b.leaves ∙ at_other j k cs h;
  here = λ h. let p : (c : Channel) × (channel_at k cs ≡ Some c) = at_some k cs h in
      (p.0, read_on p.0, p.1, ap (channel_at k) b.leaves ∙ at_here k cs p.0 p.1, read_here k p.0 r (b.answers ∙ ap (answered_by k) p.1));
  past = λ h. (b.answers ∙ ap (answered_by k) (slice_get_past cs k h), b.leaves ∙ rest_none k cs h);
}

-- the laws of a bank hold of each channel
pub lawful_at : (k : ℕ) (cs : List Channel) (c : Channel) → AllLawful cs → channel_at k cs ≡ Some c → Lawful c.figures c.waits
lawful_at k [] c l e = cc
lawful_at zero (b ∷ cs) c l e = let s : b ≡ c = cc in rw (sym s) l.0
lawful_at (suc k) (b ∷ cs) c l e = lawful_at k cs c l.1 e

-- what a head with these entries answers as a reading is below their modulus
head_turn : (t : Bool) (d m : ℕ) (w : List Entry) (k x : ℕ) → AllBelow m w → of_channel k (answer_of t d w) ≡ Ok x → x < m
head_turn false d m w k x h e = cc
head_turn true d m [] k x h e = cc
head_turn true d m (reading r ∷ w) k x h e = let s : r ≡ x = cc in omega (arith, s, h.0)
head_turn true d m (faulty t a b i ∷ w) k x h e = cc

turn_at : (k : ℕ) (o : Option Channel) (f : Figures) (x : ℕ) → ((c : Channel) → o ≡ Some c → Lawful c.figures c.waits) → told_by k o ≡ Ok f → answered_by k o ≡ Ok x → x < f.modulus
turn_at k None f x l p q = cc
turn_at k (Some c) f x l p q =
    let s : c.figures ≡ f = cc in
    rw (sym s) (head_turn c.figures.fit c.figures.depth c.figures.modulus c.waits k x (l c refl).below q)

pub reading_below : (k : ℕ) (cs : List Channel) (r : Result ℕ BankFault) → AllLawful cs → r ≡ channel_answer k cs → ReadingBelow cs k r
reading_below k cs r l e f x p q = turn_at k (channel_at k cs) f x (λ c. lawful_at k cs c l) p (sym e ∙ q)
