-- Each burst over a head that stands somewhere is the first fault among its entries, or a reading.
use Rattle.std.proofs.Common.{◌≡◌, ℕ, zero, suc, ◌+◌, ◌*◌, ◌/◌, ◌≤◌, Bool, true, false, List, [], ◌∷◌, length, take, drop, ℤ, Some, None, Option, refl, ap, ◌∙◌, subst, div-mul-le_self, arith}
use Rattle.std.proofs.Math.Nat.{div_self}
use Rattle.std.specs.List.{AllByRecursion}
use Rattle.std.proofs.ByRecursion.{All-drop, All-take, all-has}
use Rattle.std.proofs.lemmas.Bool.{and_parts}
use Rattle.std.proofs.lemmas.List.{length-drop, length-take-le, take_all}
use Rattle.heads.specs.declared.plates.Figures.{Figures}
use Rattle.heads.specs.Channels.{channel_of}
use Rattle.heads.specs.Entries.{Entry, reading, faulty, AllBelow}
use Rattle.heads.specs.Laws.{PlateLaws}
use Rattle.heads.specs.PhaseTables.{if_fit}
use Rattle.heads.specs.Standing.{Allowing}
use Rattle.layers.specs.Layering.{layer_fits}
use Rattle.layers.specs.Bursts.{Mishap, first_fault, readings_of, gathered, as_one, bursts, burst_proper, FromBelow}
use Rattle.layers.proofs.Bursting.{odd_some}
use Rattle.layers.proofs.Steady.{burst_not_spread}
use Rattle.piles.specs.FirstFaults.{FirstOf, EachFirstOf, BurstsSteady}

abbrev IsReading : Entry → Type 0
IsReading (reading r) = Unit {0}
IsReading (faulty k d a b) = true ≡ false

all_readings : (es : List Entry) → first_fault es ≡ None → AllByRecursion IsReading es
all_readings [] n = tt
all_readings (reading r ∷ es) n = (tt, all_readings es n)
all_readings (faulty k d a b ∷ es) n = cc

-- what is from readings alone is one
none_from : (es : List Entry) (e : Entry) → first_fault es ≡ None → FromBelow es e → FirstOf es e
none_from es (reading r) n h = n
none_from es (faulty k d a b) n h = let no : true ≡ false = all-has IsReading es (faulty k d a b) (all_readings es n) h in cc

below_take : (m n : ℕ) (w : List Entry) → AllBelow m w → AllBelow m (take n w)
below_take m zero w a = tt
below_take m (suc n) [] a = tt
below_take m (suc n) (e ∷ w) a = (a.0, below_take m n w a.1)

below_drop : (m n : ℕ) (w : List Entry) → AllBelow m w → AllBelow m (drop n w)
below_drop m zero w a = a
below_drop m (suc n) [] a = tt
below_drop m (suc n) (e ∷ w) a = below_drop m n w a.1

fit_first : (es : List Entry) (x : Bool) (e : Entry) (v : List Entry) → x ≡ true → AllByRecursion (FromBelow es) (if_fit x (e ∷ v)) → FromBelow es e
fit_first es true e v q a = a.0
fit_first es false e v q a = cc

module _ (f : Figures) (P : ℤ) (plate : PlateLaws f) (b : ℕ) (fits : layer_fits (burst_proper b) f ≡ true) where
  fit : f.fit ≡ true
  fit = (and_parts f.fit _ fits).0

  some : 1 ≤ b
  some = odd_some b (and_parts (burst_proper b) _ (and_parts f.fit _ fits).1).0

  -- as many entries as one burst takes, alone
  alone : (es : List Entry) → length es ≡ b → AllByRecursion (Allowing f.modulus f.bound P) es → AllBelow f.modulus es → first_fault es ≡ None → FromBelow es (as_one f.modulus f.bound (f.depth + 1) (readings_of es))
  alone es l a w n =
      let one : length es / b ≡ suc zero = ap (λ (k : ℕ). k / b) l ∙ div_self some in
      let whole : take b es ≡ es = take_all b es (omega arith) in
      let steady = burst_not_spread b (channel_of f es) (record { plate = plate; unfit_empty = λ u. cc (fit, u); below = w }) P a in
      let taken = subst (λ (k : ℕ). AllByRecursion (FromBelow es) (if_fit (layer_fits (burst_proper b) f) (bursts f.modulus f.bound (f.depth + 1) b k es))) one steady in
      let first = fit_first es (layer_fits (burst_proper b) f) (gathered f.modulus f.bound (f.depth + 1) (first_fault (take b es)) (readings_of (take b es))) [] fits taken in
      let same = subst (λ (v : List Entry). FromBelow es (gathered f.modulus f.bound (f.depth + 1) (first_fault v) (readings_of v))) whole first in
      subst (λ (o : Option Mishap). FromBelow es (gathered f.modulus f.bound (f.depth + 1) o (readings_of es))) n same

  one_burst : (es : List Entry) (o : Option Mishap) → first_fault es ≡ o → length es ≡ b → AllByRecursion (Allowing f.modulus f.bound P) es → AllBelow f.modulus es
      → FirstOf es (gathered f.modulus f.bound (f.depth + 1) o (readings_of es))
  one_burst es (Some x) e l a w = e
  one_burst es None e l a w = none_from es (as_one f.modulus f.bound (f.depth + 1) (readings_of es)) e (alone es l a w e)

  each_burst : (n : ℕ) (w : List Entry) → n * b ≤ length w → AllByRecursion (Allowing f.modulus f.bound P) w → AllBelow f.modulus w → EachFirstOf b w (bursts f.modulus f.bound (f.depth + 1) b n w)
  each_burst zero w h a l = tt
  each_burst (suc n) w h a l =
      let enough : b ≤ length w = omega arith in (
        enough,
        one_burst (take b w) (first_fault (take b w)) refl (length-take-le b w enough) (All-take (Allowing f.modulus f.bound P) b w a) (below_take f.modulus b w l),
        each_burst n (drop b w) (simp length-drop (omega arith)) (All-drop (Allowing f.modulus f.bound P) b w a) (below_drop f.modulus b w l),
      )

pub each_fit : (b : ℕ) (w : List Entry) (x : Bool) (v : List Entry) → (x ≡ true → EachFirstOf b w v) → EachFirstOf b w (if_fit x v)
each_fit b w true v h = h refl
each_fit b w false v h = tt

pub bursts_steady : BurstsSteady
bursts_steady b c P h a =
    let f : Figures = c.figures in
    each_fit b c.waits (layer_fits (burst_proper b) f) (bursts f.modulus f.bound (f.depth + 1) b (length c.waits / b) c.waits)
    (λ e. each_burst f P h.plate b e (length c.waits / b) c.waits (div-mul-le_self (length c.waits) b) a h.below)
