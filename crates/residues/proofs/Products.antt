-- Products of the first factors of a list.
use Rattle.std.proofs.Common.{◌≡◌, ℕ, zero, suc, ◌*◌, ◌<◌, ◌≤◌, List, [], ◌∷◌, length, get_or, take, sym, refl, ap, ◌∙◌, mul_assoc, mul-le-mul_left, mul-pos, arith}
use Rattle.residues.specs.Products.{product}

pub product_more : (gs : List ℕ) (i : ℕ) → i < length gs → product (take (suc i) gs) ≡ product (take i gs) * get_or gs i 0
product_more [] i h = absurd (omega arith)
product_more (g ∷ gs) zero h = omega arith
product_more (g ∷ gs) (suc i) h = ap (λ (x : ℕ). g * x) (product_more gs i (omega arith)) ∙ sym (mul_assoc g (product (take i gs)) (get_or gs i 0))

pub product_pos : (gs : List ℕ) → ((k : ℕ) → k < length gs → 0 < get_or gs k 0) → 0 < product gs
product_pos [] h = omega arith
product_pos (g ∷ gs) h = mul-pos {m = g} (h 0 (omega arith)) (product_pos gs (λ k l. h (suc k) (omega arith)))

-- the first of them give no more than all
pub product_le : (gs : List ℕ) (i : ℕ) → ((k : ℕ) → k < length gs → 0 < get_or gs k 0) → product (take i gs) ≤ product gs
product_le gs zero h = product_pos gs h
product_le [] (suc i) h = omega arith
product_le (g ∷ gs) (suc i) h = mul-le-mul_left g (product_le gs i (λ k l. h (suc k) (omega arith)))

-- each of them divides the product
pub product_has : (gs : List ℕ) (k : ℕ) → k < length gs → (w : ℕ) × (product gs ≡ get_or gs k 0 * w)
product_has [] k h = absurd (omega arith)
product_has (g ∷ gs) zero h = (product gs, refl)
product_has (g ∷ gs) (suc k) h = let (w, e) = product_has gs k (omega arith) in (g * w, omega (arith, ap (λ (x : ℕ). g * x) e))
