-- What so many reads of a head in turn answer and leave.
use Rattle.std.proofs.Common.{◌≡◌, ℕ, zero, suc, ◌*◌, Bool, true, false, List, [], ◌∷◌, length, drop, Result, sym, refl, ap, ◌∙◌, mul-one, mul_assoc}
use Rattle.std.proofs.Math.Nat.{zero-sub}
use native.Mathlib.Numerals.{unary_clauses}
use Rattle.heads.specs.declared.faults.HeadFault.{HeadFault}
use Rattle.heads.specs.declared.plates.Figures.{Figures}
use Rattle.heads.specs.Answers.{answer_of, rest}
use Rattle.heads.specs.Channels.{Channel, channel_of}
use Rattle.heads.specs.Entries.{Entry}
use Rattle.piles.specs.Piles.{Layer, laid, pile, takes, less}
use Rattle.piles.specs.Reads.{ReadsOn, in_turn, ReadInTurn, all_take, PilesAdvance}
use Rattle.piles.proofs.Advancing.{rest_first, layers_advance}

-- one answer, and those of what is left
one_on : (b : Bool) (d n : ℕ) (w : List Entry) → answer_of b d w ∷ in_turn b d n (rest w) ≡ in_turn b d (suc n) w
one_on true d zero [] = refl
one_on true d (suc n) [] = simp unary_clauses refl
one_on true d n (e ∷ w) = simp unary_clauses refl
one_on false d n w = refl

pub left : (c d : Channel) (rs : List (Result ℕ HeadFault)) → ReadsOn c rs d → d ≡ less (length rs) c
left c d [] e = e
left c d (r ∷ rs) (e, x, more) =
    left e d rs more ∙ ap (λ (f : Figures). channel_of f (drop (length rs) e.waits)) x.same ∙ ap (channel_of c.figures) (ap (drop (length rs)) x.leaves ∙ sym (rest_first (length rs) c.waits))

told : (c d : Channel) (rs : List (Result ℕ HeadFault)) → ReadsOn c rs d → rs ≡ in_turn c.figures.fit c.figures.depth (length rs) c.waits
told c d [] e = nothing c.figures.fit c.figures.depth c.waits
  where
    nothing : (b : Bool) (k : ℕ) (w : List Entry) → [] ≡ in_turn b k 0 w
    nothing true k [] = refl
    nothing true k (e ∷ w) = rw (zero-sub (suc (length w))) refl
    nothing false k w = refl
told c d (r ∷ rs) (e, x, more) =
    ap (λ (a : Result ℕ HeadFault). a ∷ rs) x.answers
    ∙ ap (λ (s : List (Result ℕ HeadFault)). answer_of c.figures.fit c.figures.depth c.waits ∷ s)
    (told e d rs more ∙ ap (λ (f : Figures). in_turn f.fit f.depth (length rs) e.waits) x.same ∙ ap (in_turn c.figures.fit c.figures.depth (length rs)) x.leaves)
    ∙ one_on c.figures.fit c.figures.depth (length rs) c.waits

pub read_in_turn : ReadInTurn
read_in_turn c d rs h = (told c d rs h, left c d rs h)

-- a pile less n entries is the pile over its foot, less as many as those were made of
pile_less : (foot : Channel) (layers : List Layer) (n : ℕ) → less n (pile foot layers) ≡ pile (less (n * all_take layers) foot) layers
pile_less foot [] n = ap (λ (k : ℕ). less k foot) (sym (mul-one n))
pile_less foot (l ∷ ls) n =
    pile_less (laid l foot) ls n ∙ ap (λ (c : Channel). pile c ls) (layers_advance l foot (n * all_take ls) ∙ ap (λ (k : ℕ). laid l (less k foot)) (mul_assoc n (all_take ls) (takes l)))

pub piles_advance : PilesAdvance
piles_advance foot d layers rs h = left (pile foot layers) d rs h ∙ pile_less foot layers (length rs)
