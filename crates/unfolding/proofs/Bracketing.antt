-- The bracket from lo to hi is exact, and the mean is near it.
use Rattle.std.proofs.Common.{◌≡◌, ℕ, ◌+◌, ◌*◌, ◌<◌, ◌≤◌, List, length, get_or, ℤ, pos, ◌+ℤ◌, ◌-ℤ◌, ◌*ℤ◌, ◌≤ℤ◌, ◌<ℤ◌, refl, subst, mul-le-mul_left, arith}
use Rattle.residues.specs.Circle.{◌modulo◌}
use Rattle.residues.proofs.Ring.{lin}
use Rattle.residues.proofs.Floor.{split}
use Rattle.residues.proofs.Products.{product_pos}
use Rattle.settings.specs.Settings.{Accepted, range_of}
use Rattle.unfolding.specs.Channels.{total, GreatestAt, LeastAt}
use Rattle.unfolding.specs.Folds.{Turns, unfolded_at}
use Rattle.unfolding.specs.Brackets.{Allowed, Exact, NoPosition, low_at, high_at, rounded_mean, MeanNear}
use Rattle.unfolding.proofs.Agreed.{factors_pos}
use Rattle.unfolding.proofs.Arcs.{to_between, from_between, near_round}
use Rattle.unfolding.proofs.Covers.{Covers, from_cover, to_cover, range_pos}
use Rattle.unfolding.proofs.Averages.{total_low, total_high, mean_low, mean_high}

le_trans : (a b c : ℤ) → a ≤ℤ b → b ≤ℤ c → a ≤ℤ c
le_trans a b c h l = omega (arith, lin)

module _ (u : ℕ) (gs rs ts : List ℕ) (a : Accepted u gs) (n : ℕ) (t : Turns u gs rs n) (narrow : (k : ℕ) → k < length gs → 4 * get_or ts k 0 < u)
    (lo hi : ℤ) (i j : ℕ) (l : GreatestAt (length gs) (low_at u gs rs ts n) lo i) (h : LeastAt (length gs) (high_at u gs rs ts n) hi j) where
  -- what all channels cover lies from lo to hi
  covered : (q : ℤ) → Covers u gs rs ts n q → (lo ≤ℤ q) × (q ≤ℤ hi)
  covered q c = (subst (λ z. z ≤ℤ q) l.gives (c i l.within).0, subst (λ z. q ≤ℤ z) h.gives (c j h.within).1)

  covering : (q : ℤ) → lo ≤ℤ q → q ≤ℤ hi → Covers u gs rs ts n q
  covering q m o k p = (le_trans (low_at u gs rs ts n k) lo q (l.most k p) m, le_trans q hi (high_at u gs rs ts n k) o (h.least k p))

  pub none : hi <ℤ lo → NoPosition (range_of u gs) (Allowed u gs rs ts)
  none over p _ allowed =
      let (w, c) = to_cover u gs rs ts n a t narrow (pos p) allowed in
      crossed lo hi (pos p +ℤ w *ℤ pos (range_of u gs)) over (covered (pos p +ℤ w *ℤ pos (range_of u gs)) c)
    where
      crossed : (lo hi q : ℤ) → hi <ℤ lo → (lo ≤ℤ q) × (q ≤ℤ hi) → ⊥
      crossed lo hi q h (l, m) = absurd (omega (arith, lin))

  module _ (size : ℕ) (order : lo ≤ℤ hi) (size_is : pos size ≡ hi -ℤ lo +ℤ pos 1) where
    -- channel 0 alone leaves no more than half a unit and one
    pub narrow_enough : 2 * size ≤ u + 1
    narrow_enough =
        let o : 0 < length gs = a.counted.0 in
        small u (get_or ts 0 0) size (unfolded_at u gs rs n 0) lo hi (narrow 0 o) (l.most 0 o) (h.least 0 o) size_is
      where
        small : (u t size : ℕ) (c lo hi : ℤ) → 4 * t < u → (c -ℤ pos t) ≤ℤ lo → hi ≤ℤ (c +ℤ pos t) → pos size ≡ hi -ℤ lo +ℤ pos 1 → 2 * size ≤ u + 1
        small u t size c lo hi f m o e = omega (arith, lin)

    once : size ≤ range_of u gs
    once = omega (arith, narrow_enough, a.unit_fits.0, mul-le-mul_left u (product_pos gs (factors_pos u gs a)))

    pub exact : Exact (range_of u gs) (lo modulo range_of u gs) size (Allowed u gs rs ts)
    exact = record {
      starts = (split lo (range_of u gs) (range_pos u gs a)).1;
      some = one lo hi size order size_is;
      once = once;
      holds = λ p b. (
        (λ x. let (w, m, o) = to_between (range_of u gs) lo hi size (range_pos u gs a) once size_is (pos p) x in
            from_cover u gs rs ts n a (pos p) (pos p +ℤ w *ℤ pos (range_of u gs)) w refl (covering (pos p +ℤ w *ℤ pos (range_of u gs)) m o)),
        (λ x. let (w, c) = to_cover u gs rs ts n a t narrow (pos p) x in
            let (m, o) = covered (pos p +ℤ w *ℤ pos (range_of u gs)) c in
            from_between (range_of u gs) lo hi size (range_pos u gs a) once size_is (pos p) (w, m, o)),
      );
    }
      where
        one : (lo hi : ℤ) (size : ℕ) → lo ≤ℤ hi → pos size ≡ hi -ℤ lo +ℤ pos 1 → 1 ≤ size
        one lo hi size m e = omega (arith, lin)

    pub mean_near : length ts ≡ length gs → MeanNear (range_of u gs) (lo modulo range_of u gs) size (rounded_mean u gs rs n modulo range_of u gs) ts
    mean_near paired T most p b x =
        let (w, m, o) = to_between (range_of u gs) lo hi size (range_pos u gs a) once size_is (pos p) x in
        let q : ℤ = pos p +ℤ w *ℤ pos (range_of u gs) in
        let c = covering q m o in
        let K : ℕ = length gs in
        let S : ℤ = total K (unfolded_at u gs rs n) in
        let k₀ : 0 < K = a.counted.0 in
        near_round (range_of u gs) T (rounded_mean u gs rs n) q (pos p) w (range_pos u gs a) refl
        (mean_low K S (q -ℤ pos T) k₀ (total_low K (unfolded_at u gs rs n) (q -ℤ pos T) (λ k e. under (unfolded_at u gs rs n k) q (get_or ts k 0) T (most k (omega arith)) (c k e).1)))
        (mean_high K S (q +ℤ pos T) k₀ (total_high K (unfolded_at u gs rs n) (q +ℤ pos T) (λ k e. over (unfolded_at u gs rs n k) q (get_or ts k 0) T (most k (omega arith)) (c k e).0)))
      where
        under : (c q : ℤ) (t T : ℕ) → t ≤ T → q ≤ℤ (c +ℤ pos t) → (q -ℤ pos T) ≤ℤ c
        under c q t T e f = omega (arith, lin)

        over : (c q : ℤ) (t T : ℕ) → t ≤ T → (c -ℤ pos t) ≤ℤ q → c ≤ℤ (q +ℤ pos T)
        over c q t T e f = omega (arith, lin)
