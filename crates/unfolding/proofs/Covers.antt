-- The positions that every reading allows are those that the unfolded readings cover.
use Rattle.std.proofs.Common.{◌≡◌, ℕ, ◌*◌, ◌<◌, List, length, get_or, ℤ, pos, ◌+ℤ◌, ◌-ℤ◌, ◌*ℤ◌, neg_ℤ, ◌≤ℤ◌, ◌<ℤ◌, refl, ap, mul-pos, arith}
use native.Mathlib.Decide.{dec_lt}
use Rattle.residues.proofs.Ring.{ring, lin}
use Rattle.residues.proofs.Round.{allows_errs, from_error}
use Rattle.residues.proofs.Products.{product_has, product_pos}
use Rattle.settings.specs.Settings.{Accepted, modulus_at, range_of}
use Rattle.unfolding.specs.Folds.{Turns, fold_at, unfolded_at}
use Rattle.unfolding.specs.Robust.{ReadsNear}
use Rattle.unfolding.specs.Brackets.{Allowed, low_at, high_at}
use Rattle.unfolding.proofs.Agreed.{factors_pos, apart}
use Rattle.unfolding.proofs.Robustness.{robust}

pub range_pos : (u : ℕ) (gs : List ℕ) → Accepted u gs → 0 < range_of u gs
range_pos u gs a = mul-pos a.unit_fits.0 (product_pos gs (factors_pos u gs a))

pub modulus_pos : (u : ℕ) (gs : List ℕ) → Accepted u gs → (k : ℕ) → k < length gs → 0 < modulus_at u gs k
modulus_pos u gs a k h = (a.moduli_fit k h).0

-- r is its unfolded reading less its folds
back : (c f m r P q w R v : ℤ) → c ≡ f *ℤ m +ℤ r → q ≡ P +ℤ w *ℤ R → R ≡ m *ℤ v → r ≡ P +ℤ (c -ℤ q) +ℤ (w *ℤ v -ℤ f) *ℤ m
back c f m r P q w R v a b d = simp ring (omega (arith, lin, simp ring at (ap (λ z. w *ℤ z) d)))

module _ (u : ℕ) (gs rs ts : List ℕ) (n : ℕ) where
  -- q lies within every channel's bound of its unfolded reading
  abbrev pub Covers : ℤ → Type 0
  Covers q = (k : ℕ) → k < length gs → (low_at u gs rs ts n k ≤ℤ q) × (q ≤ℤ high_at u gs rs ts n k)

  module _ (a : Accepted u gs) where
    pub from_cover : (P q w : ℤ) → q ≡ P +ℤ w *ℤ pos (range_of u gs) → Covers q → Allowed u gs rs ts P
    from_cover P q w e cover k h =
        let (v, f) = product_has gs k h in
        let c : ℤ = unfolded_at u gs rs n k in
        let turns : range_of u gs ≡ modulus_at u gs k * v = omega (arith, ap (λ (z : ℕ). u * z) f) in
        from_error (modulus_at u gs k) (get_or ts k 0) (pos (get_or rs k 0)) P (c -ℤ q) (w *ℤ pos v -ℤ fold_at u gs rs n k) (modulus_pos u gs a k h)
        (back c (fold_at u gs rs n k) (pos (modulus_at u gs k)) (pos (get_or rs k 0)) P q w (pos (range_of u gs)) (pos v) refl e (ap pos turns))
        (over c q (get_or ts k 0) (cover k h).1) (under c q (get_or ts k 0) (cover k h).0)
      where
        over : (c q : ℤ) (t : ℕ) → q ≤ℤ (c +ℤ pos t) → neg_ℤ (pos t) ≤ℤ (c -ℤ q)
        over c q t h = omega (arith, lin)

        under : (c q : ℤ) (t : ℕ) → (c -ℤ pos t) ≤ℤ q → (c -ℤ q) ≤ℤ pos t
        under c q t h = omega (arith, lin)

    module _ (t : Turns u gs rs n) (narrow : (k : ℕ) → k < length gs → 4 * get_or ts k 0 < u) where
      -- each channel's error, where there is such a channel
      error_at : (P : ℤ) → Allowed u gs rs ts P → (k : ℕ) → Dec (k < length gs)
          → (e : ℤ) × (k < length gs → ReadsNear u (modulus_at u gs k) (get_or rs k 0) P e × (neg_ℤ (pos (get_or ts k 0)) ≤ℤ e) × (e ≤ℤ pos (get_or ts k 0)))
      error_at P allowed k (yes h) =
          let (e, j, f, l, m) = (allows_errs (modulus_at u gs k) (get_or ts k 0) (get_or rs k 0) P (modulus_pos u gs a k h)).0 (allowed k h) in
          (e, λ _. (record { round = (j, f); above = above u (get_or ts k 0) e (narrow k h) l; below = below u (get_or ts k 0) e (narrow k h) m }, l, m))
        where
          above : (u t : ℕ) (e : ℤ) → 4 * t < u → neg_ℤ (pos t) ≤ℤ e → neg_ℤ (pos u) <ℤ (pos 4 *ℤ e)
          above u t e h l = omega (arith, lin)

          below : (u t : ℕ) (e : ℤ) → 4 * t < u → e ≤ℤ pos t → (pos 4 *ℤ e) <ℤ pos u
          below u t e h l = omega (arith, lin)
      error_at P allowed k (no h) = (pos 0, λ l. absurd (h l))

      pub to_cover : (P : ℤ) → Allowed u gs rs ts P → (w : ℤ) × Covers (P +ℤ w *ℤ pos (range_of u gs))
      to_cover P allowed =
          let errors : (k : ℕ) → (e : ℤ) × (k < length gs → ReadsNear u (modulus_at u gs k) (get_or rs k 0) P e × (neg_ℤ (pos (get_or ts k 0)) ≤ℤ e) × (e ≤ℤ pos (get_or ts k 0))) =
          λ k. error_at P allowed k (dec_lt k (length gs)) in
          let (w, off) = robust u gs rs (apart u gs a) n t P (λ k. (errors k).0) (λ k h. ((errors k).1 h).0) in
          (w, λ k h. cover (unfolded_at u gs rs n k) P (errors k).0 (w *ℤ pos (range_of u gs)) (get_or ts k 0) (off k h) ((errors k).1 h).1 ((errors k).1 h).2)
        where
          cover : (c P e R : ℤ) (t : ℕ) → c ≡ P +ℤ e +ℤ R → neg_ℤ (pos t) ≤ℤ e → e ≤ℤ pos t → ((c -ℤ pos t) ≤ℤ (P +ℤ R)) × ((P +ℤ R) ≤ℤ (c +ℤ pos t))
          cover c P e R t f l h = (omega (arith, lin), omega (arith, lin))
