-- A setting from moduli, by the unit and the factors that they have.
use Rattle.std.proofs.Common.{◌≡◌, ℕ, ◌*◌, ◌/◌, ◌^◌, ◌<◌, ◌≤◌, ◌⊎◌, List, [], ◌∷◌, ◌++◌, length, get_or, take, Ok, Err, Result, refl, sym, ap, ◌∙◌, subst, inl, inr, arith, length-take-le, get_or-take}
use Rattle.std.proofs.lemmas.Bool.{cases_eq}
use Rattle.std.proofs.lemmas.List.{get_or_append_left, get_or_push, length_push}
use Prim.Native.Nat.{◌∣◌}
use Rattle.residues.specs.Divisors.{Greatest}
use native.Mathlib.Nat.{dvd_trans, dvd-zero, mul-div_cancel', pos_of_dvd_of_pos}
use Rattle.settings.specs.declared.kept.Setting.{Setting}
use Rattle.settings.specs.declared.refusals.SettingRefusal.{SettingRefusal}
use Rattle.settings.specs.declared.refusals.SettingRefusal.TheVariants.{Count, Unit, Factor, Modulus, SharedDivisor, Range}
use Rattle.settings.specs.Settings.{Accepted, Counted, EachFromTo, FromTo, GreatestOf, Split}
use Rattle.settings.specs.Refusals.{Refuses, ModuliRefused}
use Rattle.settings.specs.Told.{Makes, MakesFromModuli, factors_of}

-- what holds of each number, and of one more
all_more : (ms : List ℕ) (m : ℕ) (P : ℕ → Type 0) → ((k : ℕ) → k < length ms → P (get_or ms k 0)) → P m → (k : ℕ) → k < length (ms ++ m ∷ []) → P (get_or (ms ++ m ∷ []) k 0)
all_more ms m P all here k h = pick (cases_eq k (length ms))
  where
    pick : (k ≡ length ms) ⊎ (k ≡ length ms → ⊥) → P (get_or (ms ++ m ∷ []) k 0)
    pick (inl e) = subst P (sym (get_or_push ms m 0 k (sym e))) here
    pick (inr o) =
        let l : k < length ms = omega (arith, length_push ms m) in
        subst P (sym (get_or_append_left ms (m ∷ []) 0 k l)) (all k l)

pub unit_pos : (ms : List ℕ) (u : ℕ) → Counted ms → EachFromTo 1 (2 ^ 31) ms → GreatestOf ms u → 0 < u
unit_pos ms u counted fit is = pos_of_dvd_of_pos (is.common 0 counted.0) (fit 0 counted.0).0

-- the greatest common divisor of no numbers is 0, and that of one more is what the others' shares with it
pub greatest_none : GreatestOf [] 0
greatest_none = record { common = λ k h. absurd (omega arith); greatest = λ d all. dvd-zero d }

pub greatest_more : (ms : List ℕ) (m u v : ℕ) → GreatestOf ms u → Greatest u m v → GreatestOf (ms ++ m ∷ []) v
greatest_more ms m u v so_far is = record {
  common = λ k h. all_more ms m (λ x. v ∣ x) (λ i l. dvd_trans _ is.left (so_far.common i l)) is.right k h;
  greatest = λ d all. is.greatest d
      (so_far.greatest d (λ i l. subst (λ x. d ∣ x) (get_or_append_left ms (m ∷ []) 0 i l) (all i (omega (arith, length_push ms m)))))
      (subst (λ x. d ∣ x) (get_or_push ms m 0 (length ms) refl) (all (length ms) (omega (arith, length_push ms m))));
}

-- the quotients at the front of their places
pub split_is : (ms : List ℕ) (u : ℕ) (parts : List ℕ) → length ms ≤ length parts → GreatestOf ms u
    → ((k : ℕ) → k < length ms → get_or parts k 0 ≡ get_or ms k 0 / u) → Split ms u (take (length ms) parts)
split_is ms u parts long is quotients = record {
  unit_is = is;
  paired = length-take-le (length ms) parts long;
  quotients = λ k h. ap (λ (x : ℕ). u * x) (get_or-take (length ms) parts k 0 h ∙ quotients k h) ∙ mul-div_cancel' u (is.common k h);
}

-- what a unit and factors are refused for, once their moduli passed
pub split_refused : (ms : List ℕ) (u : ℕ) (gs : List ℕ) (e : SettingRefusal) → Counted ms → EachFromTo 1 (2 ^ 31) ms → Split ms u gs → Refuses u gs e → ModuliRefused ms e
split_refused ms u gs Count counted fit split refused = absurd (refused (subst (FromTo 1 8) (sym split.paired) counted))
split_refused ms u gs Unit counted fit split refused = (counted, fit, (u, gs, split, refused))
split_refused ms u gs (Factor k) counted fit split refused = (counted, fit, (u, gs, split, refused))
split_refused ms u gs (Modulus k) counted fit split refused =
    let first = refused.3 in
    let h : k < length ms = omega (arith, first.0, split.paired) in
    absurd (first.2 (subst (FromTo 1 (2 ^ 31)) (sym (split.quotients k h)) (fit k h)))
split_refused ms u gs (SharedDivisor j k d) counted fit split refused = (counted, fit, (u, gs, split, refused))
split_refused ms u gs (Range k) counted fit split refused = (counted, fit, (u, gs, split, refused))

pub made_from : (ms : List ℕ) (u : ℕ) (gs : List ℕ) (r : Result Setting SettingRefusal) → Counted ms → EachFromTo 1 (2 ^ 31) ms → Split ms u gs → Makes u gs r → MakesFromModuli ms r
made_from ms u gs (Ok s) counted fit split (accepted, has) = (
  subst (λ (v : ℕ). Accepted v (factors_of s)) (sym has.unit_is) (subst (Accepted u) (sym has.factors_are) accepted),
  subst (λ (v : ℕ). Split ms v (factors_of s)) (sym has.unit_is) (subst (Split ms u) (sym has.factors_are) split),
)
made_from ms u gs (Err e) counted fit split refused = split_refused ms u gs e counted fit split refused
