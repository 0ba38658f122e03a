-- The theorem of robust remainders.
use Rattle.std.proofs.Common.{◌≡◌, ℕ, ◌*◌, ◌<◌, List, length, get_or, ℤ, pos, ◌+ℤ◌, ◌-ℤ◌, ◌*ℤ◌, neg_ℤ, ◌<ℤ◌, ap, arith}
use Rattle.residues.specs.Products.{product}
use Rattle.residues.proofs.Ring.{ring, lin}
use Rattle.residues.proofs.Floor.{rounds}
use Rattle.residues.proofs.Bezout.{product_divides}
use Rattle.unfolding.specs.Folds.{CoprimeChannels, quotient_at, Turns, fold_at, unfolded_at}
use Rattle.unfolding.specs.Robust.{Robust, RobustRemainders}
use Rattle.unfolding.proofs.Turning.{evenly, place_is}

-- two readings of N differ by whole units, and the difference of their errors
apart_by : (u g g₀ j j₀ N e e₀ r r₀ : ℤ) → r ≡ N +ℤ e +ℤ j *ℤ (u *ℤ g) → r₀ ≡ N +ℤ e₀ +ℤ j₀ *ℤ (u *ℤ g₀) → r -ℤ r₀ ≡ u *ℤ (j *ℤ g -ℤ j₀ *ℤ g₀) +ℤ (e -ℤ e₀)
apart_by u g g₀ j j₀ N e e₀ r r₀ h i = simp ring (omega (arith, lin, simp ring at h, simp ring at i))

-- the units by which channel 0 is off are a multiple of every factor
divided : (y g g₀ j j₀ f q : ℤ) → f *ℤ g ≡ y -ℤ q → q ≡ j *ℤ g -ℤ j₀ *ℤ g₀ → y +ℤ j₀ *ℤ g₀ ≡ g *ℤ (f +ℤ j)
divided y g g₀ j j₀ f q e h = simp ring (omega (arith, lin, simp ring at e, simp ring at h))

-- and so every unfolded reading is off by the same multiple of the range
off_by : (c u y g g₀ j j₀ q N e r p w : ℤ) → c ≡ u *ℤ (y -ℤ q) +ℤ r → q ≡ j *ℤ g -ℤ j₀ *ℤ g₀ → r ≡ N +ℤ e +ℤ j *ℤ (u *ℤ g) → y +ℤ j₀ *ℤ g₀ ≡ p *ℤ w → c ≡ N +ℤ e +ℤ w *ℤ (u *ℤ p)
off_by c u y g g₀ j j₀ q N e r p w a b d f =
    simp ring (omega (arith, lin, simp ring at a, simp ring at (ap (λ x. u *ℤ x) b), simp ring at d, simp ring at (ap (λ x. u *ℤ x) f)))

module _ (u : ℕ) (gs rs : List ℕ) (a : CoprimeChannels u gs) (n : ℕ) (t : Turns u gs rs n) where
  pub robust : Robust u gs rs n
  robust N error near =
      let y : ℤ = pos (n * get_or gs 0 0) in
      let o : 0 < length gs = a.some in
      let j : (k : ℕ) → k < length gs → ℤ = λ k h. (near k h).round.0 in
      let q : (k : ℕ) (h : k < length gs) → quotient_at u rs k ≡ j k h *ℤ pos (get_or gs k 0) -ℤ j 0 o *ℤ pos (get_or gs 0 0) = λ k h.
      rounds u (pos (get_or rs k 0) -ℤ pos (get_or rs 0 0)) (j k h *ℤ pos (get_or gs k 0) -ℤ j 0 o *ℤ pos (get_or gs 0 0)) (error k -ℤ error 0) a.unit_pos
      (apart_by (pos u) (pos (get_or gs k 0)) (pos (get_or gs 0 0)) (j k h) (j 0 o) N (error k) (error 0) (pos (get_or rs k 0)) (pos (get_or rs 0 0)) (near k h).round.1 (near 0 o).round.1)
      (small_low u (error k) (error 0) (near k h).above (near 0 o).below) (small_high u (error k) (error 0) (near k h).below (near 0 o).above) in
      let (w, e) = product_divides gs (y +ℤ j 0 o *ℤ pos (get_or gs 0 0)) a.coprime
      (λ k h. (fold_at u gs rs n k +ℤ j k h, divided y (pos (get_or gs k 0)) (pos (get_or gs 0 0)) (j k h) (j 0 o) (fold_at u gs rs n k) (quotient_at u rs k) (evenly u gs rs a n t k h) (q k h))) in (
        w,
        λ k h. off_by (unfolded_at u gs rs n k) (pos u) y (pos (get_or gs k 0)) (pos (get_or gs 0 0)) (j k h) (j 0 o) (quotient_at u rs k) N (error k) (pos (get_or rs k 0)) (pos (product gs)) w
            (place_is u gs rs a n t k h) (q k h) (near k h).round.1 e,
      )
    where
      small_low : (u : ℕ) (e f : ℤ) → neg_ℤ (pos u) <ℤ (pos 4 *ℤ e) → (pos 4 *ℤ f) <ℤ pos u → neg_ℤ (pos u) <ℤ (e -ℤ f +ℤ (e -ℤ f))
      small_low u e f h l = omega (arith, lin)

      small_high : (u : ℕ) (e f : ℤ) → (pos 4 *ℤ e) <ℤ pos u → neg_ℤ (pos u) <ℤ (pos 4 *ℤ f) → (e -ℤ f +ℤ (e -ℤ f)) <ℤ pos u
      small_high u e f h l = omega (arith, lin)

pub robust_remainders : RobustRemainders
robust_remainders u gs rs n a t = robust u gs rs a n t
