-- A unit and factors that are refused are not accepted, and are refused for one reason.
use Rattle.std.proofs.Common.{◌≡◌, ℕ, suc, ◌<◌, ◌≤◌, List, [], ◌∷◌, length, get_or, take, sym, refl, ap, ◌∙◌, subst, inl, inr, mul-le-mul_left, arith, length-take, get_or-take, take-take}
use native.Mathlib.Nat.{dvd_antisymm}
use lib.Seq.{take-length}
use Rattle.residues.specs.Divisors.{Coprime, Greatest}
use Rattle.residues.specs.Products.{product, PairwiseCoprime}
use Rattle.residues.proofs.Products.{product_le}
use Rattle.settings.specs.declared.refusals.SettingRefusal.{SettingRefusal}
use Rattle.settings.specs.declared.refusals.SettingRefusal.TheVariants.{Count, Unit, Factor, Modulus, SharedDivisor, Range}
use Rattle.settings.specs.Settings.{Counted, FactorFits, ModulusFits, RangeFits, UnitFits, range_of}
use Rattle.settings.specs.Refusals.{PassesFirst, Refuses, SharesFirst, TellsPassing, TellsShared}
use Rattle.settings.specs.SettingLaws.{RefusedNotAccepted, OneRefusal}
use Rattle.settings.proofs.Chains.{Check, FailsIn, plain, each, fails_alone, fails_once, same_place}

-- the pair that shares a divisor first
not_shared : (gs : List ℕ) (j k d : ℕ) → SharesFirst gs j k d → Coprime (get_or gs j 0) (get_or gs k 0) → ⊥
not_shared gs j k d h coprime = h.shared (coprime d h.divisor_is.left h.divisor_is.right)

same_first : (gs : List ℕ) (j k d j' k' d' : ℕ) → SharesFirst gs j k d → SharesFirst gs j' k' d' → j ≡ j'
same_first gs j k d j' k' d' h i =
    same_place j j' (λ a. not_shared gs j k d h (i.none_before j k a h.in_order h.within)) (λ a. not_shared gs j' k' d' i (h.none_before j' k' a i.in_order i.within))

same_second : (gs : List ℕ) (j k d k' d' : ℕ) → SharesFirst gs j k d → SharesFirst gs j k' d' → k ≡ k'
same_second gs j k d k' d' h i =
    same_place k k' (λ a. not_shared gs j k d h (i.none_between k h.in_order a)) (λ a. not_shared gs j k' d' i (h.none_between k' i.in_order a))

same_divisor : (a b d d' : ℕ) → Greatest a b d → Greatest a b d' → d ≡ d'
same_divisor a b d d' h i = dvd_antisymm (i.greatest d h.left h.right) (h.greatest d' i.left i.right)

same_shared : (gs : List ℕ) (j k d j' k' d' : ℕ) → SharesFirst gs j k d → SharesFirst gs j' k' d' → SharedDivisor j k d ≡ SharedDivisor j' k' d'
same_shared gs j k d j' k' d' h i =
    let p = same_first gs j k d j' k' d' h i in
    let i₁ : SharesFirst gs j k' d' = subst (λ (x : ℕ). SharesFirst gs x k' d') (sym p) i in
    let q = same_second gs j k d k' d' h i₁ in
    let i₂ : SharesFirst gs j k d' = subst (λ (x : ℕ). SharesFirst gs j x d') (sym q) i₁ in
    let r = same_divisor (get_or gs j 0) (get_or gs k 0) d d' h.divisor_is i₂.divisor_is in
    cc

unfoldable pairs : List ℕ → Check
pairs gs = record {
  Pass = PairwiseCoprime gs;
  Fail = TellsShared gs;
  never_both = λ e (j, k, d, _, h) p. not_shared gs j k d h (p j k h.in_order h.within);
  one = λ e f (j, k, d, a, h) (j', k', d', b, i). a ∙ same_shared gs j k d j' k' d' h i ∙ sym b;
}

-- more factors give no smaller a range
abbrev Positive : List ℕ → Type 0
Positive gs = (k : ℕ) → k < length gs → 0 < get_or gs k 0

range_grows : (u : ℕ) (gs : List ℕ) (i l : ℕ) → Positive gs → i ≤ l → range_of u (take i gs) ≤ range_of u (take l gs)
range_grows u gs i l positive h =
    let first : Positive (take l gs) = λ k m.
    let kl : k < l = omega (arith, length-take l gs) in
    subst (λ (x : ℕ). 0 < x) (sym (get_or-take l gs k 0 kl)) (positive k (omega (arith, length-take l gs))) in
    mul-le-mul_left u (subst (λ (xs : List ℕ). product xs ≤ product (take l gs)) (take-take i l gs h) (product_le (take l gs) i first))

same_channel : (u : ℕ) (gs : List ℕ) (k l : ℕ) → Positive gs → PassesFirst u gs k → PassesFirst u gs l → k ≡ l
same_channel u gs k l positive h i =
    same_place k l
    (λ a. omega (arith, range_grows u gs (suc k) l positive a, h.passes, i.fits_before))
    (λ a. omega (arith, range_grows u gs (suc l) k positive a, i.passes, h.fits_before))

unfoldable ranges : (u : ℕ) (gs : List ℕ) → Check
ranges u gs = record {
  Pass = RangeFits u gs;
  Fail = λ e. Positive gs × TellsPassing u gs e;
  never_both = λ e (positive, (k, _, h)) p.
      omega (arith, range_grows u gs (suc k) (length gs) positive h.within, ap (range_of u) (take-length gs), h.passes);
  one = λ e f (positive, (k, a, h)) (_, (l, b, i)). a ∙ ap Range (same_channel u gs k l positive h i) ∙ sym b;
}

-- the six checks in a row
unfoldable checks : (u : ℕ) → List ℕ → List Check
checks u gs =
    plain (Counted gs) Count ∷ plain (UnitFits u) Unit ∷ each (FactorFits gs) (length gs) Factor
    ∷ each (ModulusFits u gs) (length gs) Modulus ∷ pairs gs ∷ ranges u gs ∷ []

in_order : (u : ℕ) (gs : List ℕ) (e : SettingRefusal) → Refuses u gs e → FailsIn (checks u gs) e
unfolding checks plain each pairs ranges
in_order u gs Count h = inl (refl, h)
in_order u gs Unit (a, h) = inr (a, inl (refl, h))
in_order u gs (Factor k) (a, b, h) = inr (a, inr (b, inl (k, refl, h)))
in_order u gs (Modulus k) (a, b, c, h) = inr (a, inr (b, inr (c, inl (k, refl, h))))
in_order u gs (SharedDivisor j k d) (p, h) = inr (p.counted, inr (p.unit_fits, inr (p.factors_fit, inr (p.moduli_fit, inl (j, k, d, refl, h)))))
in_order u gs (Range k) (p, q, h) =
    inr (p.counted, inr (p.unit_fits, inr (p.factors_fit, inr (p.moduli_fit, inr (q, inl (λ i l. omega (arith, p.factors_fit i l), (k, refl, h)))))))

pub refused_not_accepted : RefusedNotAccepted
unfolding checks plain each pairs ranges
refused_not_accepted u gs e h a =
    fails_alone (checks u gs) e (in_order u gs e h) (a.counted, (a.unit_fits, (a.factors_fit, (a.moduli_fit, (a.coprime, (a.range_fits, tt))))))

pub one_refusal : OneRefusal
one_refusal u gs e f h k = fails_once (checks u gs) e f (in_order u gs e h) (in_order u gs f k)
