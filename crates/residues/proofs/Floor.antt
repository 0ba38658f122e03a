-- Division that rounds down, by its two bounds, and the remainder beside it.
use Rattle.std.proofs.Common.{◌≡◌, ℕ, ◌+◌, ◌*◌, ◌<◌, ℤ, pos, negsuc, ◌+ℤ◌, ◌*ℤ◌, neg_ℤ, ◌≤ℤ◌, ◌<ℤ◌, mod-lt, arith}
use native.Mathlib.Nat.{div-add-mod, lt_of_mul-lt-mul_left}
use borrow.Author.Differences.{up, down}
use Rattle.std.specs.Int.{int_div_euclid}
use Rattle.residues.specs.Circle.{◌modulo◌}
use Rattle.residues.proofs.Ring.{lin}

-- z is so many n, and its remainder
pub split : (z : ℤ) (n : ℕ) → 0 < n → (z ≡ int_div_euclid z (pos n) *ℤ pos n +ℤ pos (z modulo n)) × (z modulo n < n)
split (pos a) n h = (omega (arith, lin, div-add-mod a n), mod-lt a h)
split (negsuc a) n h = (omega (arith, lin, div-add-mod a n, mod-lt a h), omega (arith, mod-lt a h))

pub floor_low : (z : ℤ) (n : ℕ) → 0 < n → (int_div_euclid z (pos n) *ℤ pos n) ≤ℤ z
floor_low z n h = omega (arith, lin, split z n h)

pub floor_high : (z : ℤ) (n : ℕ) → 0 < n → z <ℤ (int_div_euclid z (pos n) *ℤ pos n +ℤ pos n)
floor_high z n h = omega (arith, lin, split z n h)

-- q n is at most z, and p n is less than n below it: q is at most p
pub at_most : (n : ℕ) (z p q : ℤ) → (q *ℤ pos n) ≤ℤ z → z <ℤ (p *ℤ pos n +ℤ pos n) → q ≤ℤ p
at_most n z p q h g =
    let k : n * (up q + down p) < n * (up p + down q + 1) = omega (arith, lin) in
    let l : up q + down p < up p + down q + 1 = lt_of_mul-lt-mul_left n k in
    omega (arith, lin)

pub floor_is : (n : ℕ) (z q : ℤ) → 0 < n → (q *ℤ pos n) ≤ℤ z → z <ℤ (q *ℤ pos n +ℤ pos n) → int_div_euclid z (pos n) ≡ q
floor_is n z q h l u =
    let a : q ≤ℤ int_div_euclid z (pos n) = at_most n z (int_div_euclid z (pos n)) q l (floor_high z n h) in
    let b : int_div_euclid z (pos n) ≤ℤ q = at_most n z q (int_div_euclid z (pos n)) (floor_low z n h) u in
    omega (arith, lin)

-- the remainder is the one number below n that z differs from by some n
pub modulo_is : (n : ℕ) (z k : ℤ) (x : ℕ) → x < n → z ≡ k *ℤ pos n +ℤ pos x → z modulo n ≡ x
modulo_is n z k x h e =
    let f : int_div_euclid z (pos n) ≡ k = floor_is n z k (omega arith) (omega (arith, lin)) (omega (arith, lin)) in
    let g : z ≡ k *ℤ pos n +ℤ pos (z modulo n) = rw f at (split z n (omega arith)).0 in
    omega (arith, lin)

-- d is j units and less than half a unit: rounded, it is j
pub rounds : (m : ℕ) (d j e : ℤ) → 0 < m → d ≡ pos m *ℤ j +ℤ e → neg_ℤ (pos m) <ℤ (e +ℤ e) → (e +ℤ e) <ℤ pos m → int_div_euclid (pos 2 *ℤ d +ℤ pos m) (pos (2 * m)) ≡ j
rounds m d j e h eq l u = floor_is (2 * m) (pos 2 *ℤ d +ℤ pos m) j (omega arith) (omega (arith, lin)) (omega (arith, lin))
