-- That quotients, folding numbers and unfolded readings fit the machine's numbers.
use Rattle.std.proofs.Common.{◌≡◌, ℕ, ◌*◌, ◌^◌, ◌<◌, ◌≤◌, List, length, get_or, ℤ, pos, ◌+ℤ◌, ◌-ℤ◌, ◌*ℤ◌, neg_ℤ, ◌≤ℤ◌, ◌<ℤ◌, sym, ap, subst, mul-le-mul_left, arith}
use Rattle.std.specs.Int.{int_div_euclid}
use Rattle.residues.proofs.Ring.{ring, lin}
use Rattle.residues.proofs.Floor.{floor_low, floor_high, at_most}
use Rattle.settings.specs.Settings.{Accepted, modulus_at}
use Rattle.unfolding.specs.Digits.{Agreeing}
use Rattle.unfolding.specs.Folds.{quotient_at}
use Rattle.unfolding.proofs.Agreed.{factors_pos, product_few}
use Rattle.unfolding.proofs.Turning.{whole}

abbrev pub FromTo : (n : ℕ) → ℤ → Type 0
FromTo n z = (neg_ℤ (pos n) ≤ℤ z) × (z ≤ℤ pos n)

-- a folding number times its modulus is so many units, less the quotient's
unit_times : (f u g y q : ℤ) → f *ℤ g ≡ y -ℤ q → f *ℤ (u *ℤ g) ≡ u *ℤ y -ℤ u *ℤ q
unit_times f u g y q e = omega (arith, lin, simp ring at (ap (λ z. u *ℤ z) e))

module _ (u : ℕ) (rs : List ℕ) (p : 0 < u) (few : u ≤ 2 ^ 24) (small : (k : ℕ) → get_or rs k 0 < 2 ^ 32) where
  abbrev twice : ℕ → ℤ
  twice k = pos 2 *ℤ (pos (get_or rs k 0) -ℤ pos (get_or rs 0 0)) +ℤ pos u

  pub quotient_fits : (k : ℕ) → FromTo (2 ^ 40) (quotient_at u rs k)
  quotient_fits k = (
    at_most (2 * u) (twice k) (quotient_at u rs k) (neg_ℤ (pos (2 ^ 40))) (omega (arith, lin, small k, small 0)) (floor_high (twice k) (2 * u) (omega arith)),
    at_most (2 * u) (twice k) (pos (2 ^ 40)) (quotient_at u rs k) (floor_low (twice k) (2 * u) (omega arith)) (omega (arith, lin, small k, small 0)),
  )

  pub units_fit : (k : ℕ) → FromTo (2 ^ 34) (pos u *ℤ quotient_at u rs k)
  units_fit k =
      let l = floor_low (twice k) (2 * u) (omega arith) in
      let h = floor_high (twice k) (2 * u) (omega arith) in
      bounded u (quotient_at u rs k) (get_or rs k 0) (get_or rs 0 0) few (small k) (small 0) l h
    where
      bounded : (u : ℕ) (q : ℤ) (r r₀ : ℕ) → u ≤ 2 ^ 24 → r < 2 ^ 32 → r₀ < 2 ^ 32 → (q *ℤ pos (2 * u)) ≤ℤ (pos 2 *ℤ (pos r -ℤ pos r₀) +ℤ pos u)
          → (pos 2 *ℤ (pos r -ℤ pos r₀) +ℤ pos u) <ℤ (q *ℤ pos (2 * u) +ℤ pos (2 * u)) → FromTo (2 ^ 34) (pos u *ℤ q)
      bounded u q r r₀ a b c l h = (omega (arith, lin), omega (arith, lin))

module _ (u : ℕ) (gs rs : List ℕ) (a : Accepted u gs) (small : (k : ℕ) → get_or rs k 0 < 2 ^ 32) (qs : List ℤ) (y : ℕ)
    (q : (k : ℕ) → k < length gs → get_or qs k (pos 0) ≡ quotient_at u rs k) (g : Agreeing gs qs y) where
  pub units_few : y < 2 ^ 40
  units_few = omega (arith, g.below, product_few u gs a)

  pub fold_fits : (k : ℕ) → k < length gs → FromTo (2 ^ 41) (int_div_euclid (pos y -ℤ get_or qs k (pos 0)) (pos (get_or gs k 0)) *ℤ pos (modulus_at u gs k))
  fold_fits k h =
      let f : ℤ = int_div_euclid (pos y -ℤ get_or qs k (pos 0)) (pos (get_or gs k 0)) in
      let e : f *ℤ pos (get_or gs k 0) ≡ pos y -ℤ get_or qs k (pos 0) = sym (whole (pos y -ℤ get_or qs k (pos 0)) (get_or gs k 0) (factors_pos u gs a k h) (g.agree k h)) in
      let m = unit_times f (pos u) (pos (get_or gs k 0)) (pos y) (get_or qs k (pos 0)) e in
      let n : FromTo (2 ^ 34) (pos u *ℤ get_or qs k (pos 0)) = subst (λ z. FromTo (2 ^ 34) (pos u *ℤ z)) (sym (q k h)) (units_fit u rs a.unit_fits.0 a.unit_fits.1 small k) in
      let r : u * y ≤ 2 ^ 40 = omega (arith, a.range_fits, mul-le-mul_left u g.below) in
      bounded (f *ℤ pos (modulus_at u gs k)) (u * y) (pos u *ℤ get_or qs k (pos 0)) m r n
    where
      bounded : (z : ℤ) (y : ℕ) (q : ℤ) → z ≡ pos y -ℤ q → y ≤ 2 ^ 40 → FromTo (2 ^ 34) q → FromTo (2 ^ 41) z
      bounded z y q e h n = (omega (arith, lin), omega (arith, lin))
