-- Moduli that are refused have no setting, and are refused for one reason.
use Rattle.std.proofs.Common.{◌≡◌, ℕ, ◌^◌, ◌<◌, List, [], ◌∷◌, length, get_or, sym, refl, ◌∙◌, subst, inl, inr, arith, ext_get_or}
use native.Mathlib.Nat.{dvd_antisymm, eq_of_mul-eq-mul_left}
use Rattle.settings.specs.declared.refusals.SettingRefusal.{SettingRefusal}
use Rattle.settings.specs.declared.refusals.SettingRefusal.TheVariants.{Count, Unit, Factor, Modulus, SharedDivisor, Range}
use Rattle.settings.specs.Settings.{Accepted, Counted, EachFromTo, FromTo, Split}
use Rattle.settings.specs.Refusals.{ModuliRefused, Refuses, SplitRefused}
use Rattle.settings.specs.SettingLaws.{ModuliRefusedNotAccepted, OneModuliRefusal}
use Rattle.settings.proofs.Chains.{Check, FailsIn, plain, each, fails_alone, fails_once}
use Rattle.settings.proofs.Laws.{refused_not_accepted, one_refusal}
use Rattle.settings.proofs.Splits.{unit_pos}

-- moduli have one unit and one list of factors
one_unit : (ms : List ℕ) (u v : ℕ) (gs hs : List ℕ) → Split ms u gs → Split ms v hs → u ≡ v
one_unit ms u v gs hs a b = dvd_antisymm (b.unit_is.greatest u a.unit_is.common) (a.unit_is.greatest v b.unit_is.common)

one_list : (ms : List ℕ) (u : ℕ) (gs hs : List ℕ) → 0 < u → Split ms u gs → Split ms u hs → gs ≡ hs
one_list ms u gs hs p a b =
    ext_get_or 0 gs hs (a.paired ∙ sym b.paired) (λ k h.
    let l : k < length ms = omega (arith, a.paired) in
    eq_of_mul-eq-mul_left u p _ _ (a.quotients k l ∙ sym (b.quotients k l)))

one_split : (ms : List ℕ) (u v : ℕ) (gs hs : List ℕ) (P : ℕ → List ℕ → Type 0) → 0 < u → Split ms u gs → Split ms v hs → P v hs → P u gs
one_split ms u v gs hs P p a b holds =
    let e = one_unit ms u v gs hs a b in
    let b₁ : Split ms u hs = subst (λ (x : ℕ). Split ms x hs) (sym e) b in
    subst (λ (xs : List ℕ). P u xs) (sym (one_list ms u gs hs p a b₁)) (subst (λ (x : ℕ). P x hs) (sym e) holds)

unfoldable splits : List ℕ → Check
splits ms = record {
  Pass = (u : ℕ) × (gs : List ℕ) × Split ms u gs × Accepted u gs;
  Fail = SplitRefused ms;
  never_both = λ e (counted, fit, (u, gs, a, h)) (v, hs, b, accepted).
      refused_not_accepted u gs e h (one_split ms u v gs hs Accepted (unit_pos ms u counted fit a.unit_is) a b accepted);
  one = λ e f (counted, fit, (u, gs, a, h)) (_, _, (v, hs, b, k)).
      one_refusal u gs e f h (one_split ms u v gs hs (λ x xs. Refuses x xs f) (unit_pos ms u counted fit a.unit_is) a b k);
}

unfoldable checks : List ℕ → List Check
checks ms = plain (Counted ms) Count ∷ each (λ i. FromTo 1 (2 ^ 31) (get_or ms i 0)) (length ms) Modulus ∷ splits ms ∷ []

in_order : (ms : List ℕ) (e : SettingRefusal) → ModuliRefused ms e → FailsIn (checks ms) e
unfolding checks plain each splits
in_order ms Count h = inl (refl, h)
in_order ms (Modulus k) (a, h) = inr (a, inl (k, refl, h))
in_order ms Unit h = inr (h.0, inr (h.1, inl h))
in_order ms (Factor k) h = inr (h.0, inr (h.1, inl h))
in_order ms (SharedDivisor j k d) h = inr (h.0, inr (h.1, inl h))
in_order ms (Range k) h = inr (h.0, inr (h.1, inl h))

pub moduli_refused_not_accepted : ModuliRefusedNotAccepted
unfolding checks plain each splits
moduli_refused_not_accepted ms e h u gs a accepted =
    let counted : Counted ms = subst (FromTo 1 8) a.paired accepted.counted in
    let fit : EachFromTo 1 (2 ^ 31) ms = λ k l. subst (FromTo 1 (2 ^ 31)) (a.quotients k l) (accepted.moduli_fit k (omega (arith, a.paired))) in
    fails_alone (checks ms) e (in_order ms e h) (counted, (fit, ((u, gs, a, accepted), tt)))

pub one_moduli_refusal : OneModuliRefusal
one_moduli_refusal ms e f h k = fails_once (checks ms) e f (in_order ms e h) (in_order ms f k)
