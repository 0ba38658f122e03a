-- A bracket round a circle, and the whole numbers from lo to hi that it stands for.
use Rattle.std.proofs.Common.{◌≡◌, ℕ, ◌<◌, ◌≤◌, ℤ, pos, negsuc, ◌+ℤ◌, ◌-ℤ◌, ◌*ℤ◌, neg_ℤ, ◌≤ℤ◌, refl, arith}
use Rattle.std.specs.Int.{int_div_euclid}
use Rattle.residues.specs.Circle.{◌modulo◌, distance}
use Rattle.residues.proofs.Ring.{ring, lin}
use Rattle.residues.proofs.Floor.{split, modulo_is}
use Rattle.residues.proofs.Congruence.{same_modulo}
use Rattle.residues.proofs.Round.{from_error}
use Rattle.unfolding.specs.Brackets.{InBracket}

-- some whole number of turns brings P between lo and hi
abbrev pub Between : (R : ℕ) (lo hi P : ℤ) → Type 0
Between R lo hi P = (w : ℤ) × (lo ≤ℤ (P +ℤ w *ℤ pos R)) × ((P +ℤ w *ℤ pos R) ≤ℤ hi)

-- an order of two whole numbers, as a distance
ahead : (a b : ℤ) → a ≤ℤ b → (x : ℕ) × (b ≡ a +ℤ pos x)
ahead a b h = go (b -ℤ a) refl
  where
    go : (z : ℤ) → b -ℤ a ≡ z → (x : ℕ) × (b ≡ a +ℤ pos x)
    go (pos x) e = (x, omega (arith, lin))
    go (negsuc x) e = absurd (omega (arith, lin))

module _ (R : ℕ) (lo hi : ℤ) (size : ℕ) (p : 0 < R) (few : size ≤ R) (s : pos size ≡ hi -ℤ lo +ℤ pos 1) where
  pub to_between : (P : ℤ) → InBracket R (lo modulo R) size P → Between R lo hi P
  to_between P h =
      let z : ℤ = P -ℤ pos (lo modulo R) in
      let (e, l) = split z R p in
      let (k, f) = same_modulo R lo p in
      let w : ℤ = neg_ℤ (int_div_euclid z (pos R)) -ℤ k in
      let g : P +ℤ w *ℤ pos R ≡ lo +ℤ pos (z modulo R) = reached P lo (pos (lo modulo R)) (int_div_euclid z (pos R)) k (pos (z modulo R)) (pos R) e f in
      (w, omega (arith, lin, g), omega (arith, lin, g, h, s))
    where
      reached : (P lo st d k x R : ℤ) → P -ℤ st ≡ d *ℤ R +ℤ x → st ≡ lo +ℤ k *ℤ R → P +ℤ (neg_ℤ d -ℤ k) *ℤ R ≡ lo +ℤ x
      reached P lo st d k x R e f = simp ring (omega (arith, lin))

  pub from_between : (P : ℤ) → Between R lo hi P → InBracket R (lo modulo R) size P
  from_between P (w, l, h) =
      let (x, e) = ahead lo (P +ℤ w *ℤ pos R) l in
      let (k, f) = same_modulo R lo p in
      let small : x < size = omega (arith, lin, e, h, s) in
      let i : (P -ℤ pos (lo modulo R)) modulo R ≡ x =
      modulo_is R (P -ℤ pos (lo modulo R)) (neg_ℤ w -ℤ k) x (omega arith) (away P lo (pos (lo modulo R)) w k (pos x) (pos R) e f) in
      omega (arith, i, small)
    where
      away : (P lo st w k x R : ℤ) → P +ℤ w *ℤ R ≡ lo +ℤ x → st ≡ lo +ℤ k *ℤ R → P -ℤ st ≡ (neg_ℤ w -ℤ k) *ℤ R +ℤ x
      away P lo st w k x R e f = simp ring (omega (arith, lin))

-- two whole numbers that are t apart at most stay so round the circle
pub near_round : (R t : ℕ) (m q P w : ℤ) → 0 < R → q ≡ P +ℤ w *ℤ pos R → (q -ℤ pos t) ≤ℤ m → m ≤ℤ (q +ℤ pos t) → distance R (pos (m modulo R)) P ≤ t
near_round R t m q P w p e l h =
    let (k, f) = same_modulo R m p in
    from_error R t (pos (m modulo R)) P (m -ℤ q) (w +ℤ k) p (turned m q P w k (pos (m modulo R)) (pos R) e f) (omega (arith, lin)) (omega (arith, lin))
  where
    turned : (m q P w k x R : ℤ) → q ≡ P +ℤ w *ℤ R → x ≡ m +ℤ k *ℤ R → x ≡ P +ℤ (m -ℤ q) +ℤ (w +ℤ k) *ℤ R
    turned m q P w k x R e f = simp ring (omega (arith, lin))
