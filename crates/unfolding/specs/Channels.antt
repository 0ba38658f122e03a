-- Numbers that go by channel: lists, sums, the greatest and the least. Assumes nothing.
use Rattle.std.specs.Prelude.{◌≡◌, ℕ, zero, suc, ◌^◌, ◌<◌, List, map, length, ℤ, pos, ◌+ℤ◌, neg_ℤ, ◌≤ℤ◌, ◌<ℤ◌, slice_index_or}
use Rattle.std.specs.List.{range_with_len}
use Rattle.residues.specs.Circle.{◌modulo◌}

-- f of channels 0 to n − 1, in a list
abbrev pub by_channel : {X : Type 0} → (n : ℕ) → (ℕ → X) → List X
by_channel n f = map f (range_with_len 0 n)

-- the sum of f over channels 0 to n − 1
abbrev pub total : (n : ℕ) → (ℕ → ℤ) → ℤ
total zero f = pos 0
total (suc n) f = total n f +ℤ f n

-- x is the greatest of f over n channels, and k the lowest channel that gives it
pub record GreatestAt (n : ℕ) (f : ℕ → ℤ) (x : ℤ) (k : ℕ) : Type 0 where
  pub within : k < n
  pub gives : f k ≡ x
  pub most : (i : ℕ) → i < n → f i ≤ℤ x
  pub lowest : (i : ℕ) → i < k → f i <ℤ x

-- x is the least of f over n channels, and k the lowest channel that gives it
pub record LeastAt (n : ℕ) (f : ℕ → ℤ) (x : ℤ) (k : ℕ) : Type 0 where
  pub within : k < n
  pub gives : f k ≡ x
  pub least : (i : ℕ) → i < n → x ≤ℤ f i
  pub lowest : (i : ℕ) → i < k → x <ℤ f i

-- no number of the list is beyond 2^42 either way
abbrev pub Moderate : List ℤ → Type 0
Moderate xs = (k : ℕ) → k < length xs → (neg_ℤ (pos (2 ^ 42)) ≤ℤ slice_index_or xs k (pos 0)) × (slice_index_or xs k (pos 0) ≤ℤ pos (2 ^ 42))

-- the position of a range of R that a whole number is
abbrev pub position_of : (R : ℕ) → ℤ → ℕ
position_of R z = z modulo R

-- a number that no sum or difference here wraps
abbrev pub Small : ℤ → Type 0
Small z = (neg_ℤ (pos (2 ^ 43)) ≤ℤ z) × (z ≤ℤ pos (2 ^ 43))
