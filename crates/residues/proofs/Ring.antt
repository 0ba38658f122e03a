-- The ring laws of ℤ that the library lacks, and two sets: `ring`, for `simp`, multiplies an expression out and sorts it; `lin`, for `omega`, reads sums and orders, with each product an unknown.
use Rattle.std.proofs.Common.{◌≡◌, ℕ, ◌*◌, ℤ, pos, ◌+ℤ◌, ◌*ℤ◌, neg_ℤ, ◌≤ℤ◌, sym, ap, ◌∙◌, mul-le-mul_left, arith}
use lib.IntN.{*ℤ_comm}
use borrow.Author.Differences.{ints, up, down, product_is, same_out, same_in, Apart-out, lt_out, le_out, below_in, at_most_in, sum_is_lem, neg_is}

pub distrib_l : (a b c : ℤ) → a *ℤ (b +ℤ c) ≡ a *ℤ b +ℤ a *ℤ c
distrib_l a b c = omega (arith, ints, ap (λ (x : ℕ). up a * x) (sum_is_lem b c), ap (λ (x : ℕ). down a * x) (sum_is_lem b c))

pub distrib_r : (a b c : ℤ) → (a +ℤ b) *ℤ c ≡ a *ℤ c +ℤ b *ℤ c
distrib_r a b c = omega (arith, ints, ap (λ (x : ℕ). x * up c) (sum_is_lem a b), ap (λ (x : ℕ). x * down c) (sum_is_lem a b))

pub assoc : (a b c : ℤ) → (a *ℤ b) *ℤ c ≡ a *ℤ (b *ℤ c)
assoc a b c = omega (
  arith,
  ints,
  ap (λ (x : ℕ). x * up c) (product_is a b).0,
  ap (λ (x : ℕ). x * up c) (product_is a b).1,
  ap (λ (x : ℕ). x * down c) (product_is a b).0,
  ap (λ (x : ℕ). x * down c) (product_is a b).1,
  ap (λ (x : ℕ). up a * x) (product_is b c).0,
  ap (λ (x : ℕ). up a * x) (product_is b c).1,
  ap (λ (x : ℕ). down a * x) (product_is b c).0,
  ap (λ (x : ℕ). down a * x) (product_is b c).1,
)

pub left_comm : (a b c : ℤ) → a *ℤ (b *ℤ c) ≡ b *ℤ (a *ℤ c)
left_comm a b c = sym (assoc a b c) ∙ ap (λ x. x *ℤ c) (*ℤ_comm a b) ∙ assoc b a c

pub right_comm : (a b c : ℤ) → a *ℤ b *ℤ c ≡ a *ℤ c *ℤ b
right_comm a b c = assoc a b c ∙ ap (λ x. a *ℤ x) (*ℤ_comm b c) ∙ sym (assoc a c b)

pub neg_l : (a b : ℤ) → neg_ℤ a *ℤ b ≡ neg_ℤ (a *ℤ b)
neg_l a b = omega (arith, ints, ap (λ (x : ℕ). x * up b) (neg_is a).0, ap (λ (x : ℕ). x * up b) (neg_is a).1, ap (λ (x : ℕ). x * down b) (neg_is a).0, ap (λ (x : ℕ). x * down b) (neg_is a).1)

pub neg_r : (a b : ℤ) → a *ℤ neg_ℤ b ≡ neg_ℤ (a *ℤ b)
neg_r a b = *ℤ_comm a (neg_ℤ b) ∙ neg_l b a ∙ ap neg_ℤ (*ℤ_comm b a)

pub one_l : (a : ℤ) → pos 1 *ℤ a ≡ a
one_l a = omega (arith, ints)

pub one_r : (a : ℤ) → a *ℤ pos 1 ≡ a
one_r a = omega (arith, ints)

-- a factor that is a natural, a numeral or not
pub scale_l : (k : ℕ) (a : ℤ) → (up (pos k *ℤ a) ≡ k * up a) × (down (pos k *ℤ a) ≡ k * down a)
scale_l k a = omega (arith, product_is (pos k) a)

pub scale_r : (a : ℤ) (k : ℕ) → (up (a *ℤ pos k) ≡ k * up a) × (down (a *ℤ pos k) ≡ k * down a)
scale_r a k = omega (arith, product_is a (pos k))

pub two_l : (a : ℤ) → pos 2 *ℤ a ≡ a +ℤ a
two_l a = omega (arith, ints)

pub two_r : (a : ℤ) → a *ℤ pos 2 ≡ a +ℤ a
two_r a = omega (arith, ints)

pub ruleset ring = (one_l, one_r, two_l, two_r, distrib_l, distrib_r, neg_l, neg_r, assoc, *ℤ_comm, left_comm)

pub ruleset lin = (same_out, Apart-out, lt_out, le_out, same_in, below_in, at_most_in, sum_is_lem, neg_is, scale_l, scale_r)

-- an order times a number that is not negative
pub mul_le : (m : ℕ) (a b : ℤ) → a ≤ℤ b → (pos m *ℤ a) ≤ℤ (pos m *ℤ b)
mul_le m a b g = omega (arith, lin, mul-le-mul_left m (le_out a b g))
