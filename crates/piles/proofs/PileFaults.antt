-- Each entry of a pile is the first fault among the entries of its foot that it stands for, or a reading.
use Rattle.std.proofs.Common.{◌≡◌, ℕ, zero, suc, ◌+◌, ◌*◌, ◌≤◌, List, [], ◌∷◌, ◌++◌, map, length, take, drop, ℤ, Some, None, refl, ap, ◌∙◌, subst, arith}
use native.Mathlib.Numerals.{unary_clauses}
use Rattle.std.proofs.lemmas.List.{drop-drop, length-drop}
use Rattle.heads.specs.Channels.{Channel}
use Rattle.heads.specs.Entries.{Entry, reading, faulty}
use Rattle.heads.specs.Laws.{Lawful}
use Rattle.heads.specs.Standing.{Stands}
use Rattle.layers.specs.Layering.{turned, zero_turns, zero_proper, gear_proper, layer_fits}
use Rattle.layers.specs.Bursts.{Mishap, first_fault}
use Rattle.piles.specs.Piles.{Layer, zero_layer, gear_layer, burst_layer, laid, pile, takes}
use Rattle.piles.specs.Reads.{all_take}
use Rattle.piles.specs.FirstFaults.{FirstOf, EachFirstOf, PilesFirst}
use Rattle.piles.proofs.Carried.{laid_lawful, laid_stands}
use Rattle.piles.proofs.Steady.{carries_on}
use Rattle.piles.proofs.FirstFaults.{each_fit, bursts_steady}

-- the first fault of two lists, one after the other
after_none : (v w : List Entry) → first_fault v ≡ None → first_fault (v ++ w) ≡ first_fault w
after_none [] w n = refl
after_none (reading r ∷ v) w n = after_none v w n
after_none (faulty k d a b ∷ v) w n = cc

before_all : (v w : List Entry) (x : Mishap) → first_fault v ≡ Some x → first_fault (v ++ w) ≡ Some x
before_all [] w x h = cc
before_all (reading r ∷ v) w x h = before_all v w x h
before_all (faulty k d a b ∷ v) w x h = h

-- an entry that stands for v, and entries with the first fault of w
first_on : (v w u : List Entry) (e : Entry) → FirstOf v e → first_fault w ≡ first_fault u → first_fault (v ++ w) ≡ first_fault (e ∷ u)
first_on v w u (reading r) n q = after_none v w n ∙ q
first_on v w u (faulty k d x y) n q = before_all v w _ n

take_on : (m n : ℕ) (w : List Entry) → take (m + n) w ≡ take m w ++ take n (drop m w)
take_on zero n w = let same : 0 + n ≡ n = omega arith in ap (λ (k : ℕ). take k w) same
take_on (suc m) zero [] = simp unary_clauses refl
take_on (suc m) (suc n) [] = simp unary_clauses refl
take_on (suc m) n (e ∷ w) = let same : suc m + n ≡ suc (m + n) = omega arith in ap (λ (k : ℕ). take k (e ∷ w)) same ∙ ap (λ (v : List Entry). e ∷ v) (take_on m n w)

module _ (b : ℕ) where
  -- what a entries stand for
  enough : (a : ℕ) (w v : List Entry) → a ≤ length v → EachFirstOf b w v → a * b ≤ length w
  enough zero w v h k = omega arith
  enough (suc a) w [] h k = absurd (omega arith)
  enough (suc a) w (e ∷ v) h (l, f, k) = let more : a * b ≤ length (drop b w) = enough a (drop b w) v (omega arith) k in omega (arith, simp length-drop at more)

  those_after : (a : ℕ) (w v : List Entry) → a ≤ length v → EachFirstOf b w v → EachFirstOf b (drop (a * b) w) (drop a v)
  those_after zero w v h k = let none : 0 ≡ 0 * b = omega arith in subst (λ (n : ℕ). EachFirstOf b (drop n w) v) none k
  those_after (suc a) w [] h k = absurd (omega arith)
  those_after (suc a) w (e ∷ v) h (l, f, k) =
      let more : b + a * b ≡ suc a * b = omega arith in
      subst (λ (u : List Entry). EachFirstOf b u (drop a v)) (drop-drop (a * b) b w ∙ ap (λ (n : ℕ). drop n w) more) (those_after a (drop b w) v (omega arith) k)

  -- the first fault among a entries is the first among all that they stand for
  same_first : (a : ℕ) (w v : List Entry) → a ≤ length v → EachFirstOf b w v → first_fault (take (a * b) w) ≡ first_fault (take a v)
  same_first zero w v h k = let none : 0 * b ≡ 0 = omega arith in ap (λ (n : ℕ). first_fault (take n w)) none
  same_first (suc a) w [] h k = absurd (omega arith)
  same_first (suc a) w (e ∷ v) h (l, f, k) =
      let more : suc a * b ≡ b + a * b = omega arith in
      ap (λ (n : ℕ). first_fault (take n w)) more ∙ ap first_fault (take_on b (a * b) w) ∙ first_on (take b w) (take (a * b) (drop b w)) (take a v) e f (same_first a (drop b w) v (omega arith) k)

  first_of_same : (v w : List Entry) (e : Entry) → first_fault w ≡ first_fault v → FirstOf v e → FirstOf w e
  first_of_same v w (reading r) q f = q ∙ f
  first_of_same v w (faulty k d x y) q f = q ∙ f

  -- entries that stand for a of those that stand for b each
  further : (a : ℕ) (w v u : List Entry) → EachFirstOf b w v → EachFirstOf a v u → EachFirstOf (a * b) w u
  further a w v [] k j = tt
  further a w v (e ∷ u) k (l, f, j) =
      (enough a w v l k, first_of_same (take a v) (take (a * b) w) e (same_first a w v l k) f, further a (drop (a * b) w) (drop a v) u (those_after a w v l k) j)

each_turned : (g : ℕ → ℕ) (w : List Entry) → EachFirstOf 1 w (map (turned g) w)
each_turned g [] = tt
each_turned g (reading r ∷ w) = (omega arith, refl, each_turned g w)
each_turned g (faulty k d x y ∷ w) = (omega arith, refl, each_turned g w)

each_itself : (w : List Entry) → EachFirstOf 1 w w
each_itself [] = tt
each_itself (reading r ∷ w) = (omega arith, refl, each_itself w)
each_itself (faulty k d x y ∷ w) = (omega arith, refl, each_itself w)

layer_first : (l : Layer) (c : Channel) (P : ℤ) → Lawful c.figures c.waits → Stands c P → EachFirstOf (takes l) c.waits (laid l c).waits
layer_first (zero_layer z) c P h a = each_fit 1 c.waits (layer_fits (zero_proper z c.figures) c.figures) _ (λ _. each_turned (zero_turns z c.figures.modulus) c.waits)
layer_first (gear_layer s w) c P h a = each_fit 1 c.waits (layer_fits (gear_proper s w c.figures) c.figures) _ (λ _. each_turned (λ r. r * s) c.waits)
layer_first (burst_layer b) c P h a = bursts_steady b c P h a

pub piles_first : PilesFirst
piles_first foot [] P h a = each_itself foot.waits
piles_first foot (l ∷ ls) P h a =
    let (Q, k) = carries_on l P in
    further (takes l) (all_take ls) foot.waits (laid l foot).waits (pile (laid l foot) ls).waits (layer_first l foot P h a) (piles_first (laid l foot) ls Q (laid_lawful l foot h) (laid_stands l foot P Q h a k))
