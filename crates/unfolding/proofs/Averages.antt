-- The rounded mean of numbers that all lie near one.
use Rattle.std.proofs.Common.{ℕ, zero, suc, ◌*◌, ◌<◌, ℤ, pos, ◌+ℤ◌, ◌*ℤ◌, ◌≤ℤ◌, arith}
use Rattle.std.specs.Int.{int_div_euclid}
use Rattle.residues.proofs.Ring.{lin}
use Rattle.residues.proofs.Floor.{floor_low, floor_high, at_most}
use Rattle.unfolding.specs.Channels.{total}

-- n numbers from l to h sum to n l at least and n h at most
pub total_low : (n : ℕ) (f : ℕ → ℤ) (l : ℤ) → ((k : ℕ) → k < n → l ≤ℤ f k) → (pos n *ℤ l) ≤ℤ total n f
total_low zero f l h = omega (arith, lin)
total_low (suc n) f l h =
    let i = total_low n f l (λ k m. h k (omega arith)) in
    let j = h n (omega arith) in
    omega (arith, lin)

pub total_high : (n : ℕ) (f : ℕ → ℤ) (u : ℤ) → ((k : ℕ) → k < n → f k ≤ℤ u) → total n f ≤ℤ (pos n *ℤ u)
total_high zero f u h = omega (arith, lin)
total_high (suc n) f u h =
    let i = total_high n f u (λ k m. h k (omega arith)) in
    let j = h n (omega arith) in
    omega (arith, lin)

-- so their rounded mean lies from l to h too
pub mean_low : (n : ℕ) (s l : ℤ) → 0 < n → (pos n *ℤ l) ≤ℤ s → l ≤ℤ int_div_euclid (pos 2 *ℤ s +ℤ pos n) (pos (2 * n))
mean_low n s l p h =
    let z : ℤ = pos 2 *ℤ s +ℤ pos n in
    at_most (2 * n) z (int_div_euclid z (pos (2 * n))) l (omega (arith, lin)) (floor_high z (2 * n) (omega arith))

pub mean_high : (n : ℕ) (s u : ℤ) → 0 < n → s ≤ℤ (pos n *ℤ u) → int_div_euclid (pos 2 *ℤ s +ℤ pos n) (pos (2 * n)) ≤ℤ u
mean_high n s u p h =
    let z : ℤ = pos 2 *ℤ s +ℤ pos n in
    at_most (2 * n) z u (int_div_euclid z (pos (2 * n))) (floor_low z (2 * n) (omega arith)) (omega (arith, lin))
