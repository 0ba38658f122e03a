-- Numbers as bytes: four bytes each, least byte first. Assumes nothing.
use Rattle.std.specs.Prelude.{ℕ, ◌+◌, ◌*◌, ◌/◌, ◌%◌, List, [], ◌∷◌, slice_index}

abbrev pub bytes_of : ℕ → List ℕ
bytes_of x = (x % 256) ∷ (x / 256 % 256) ∷ (x / 65536 % 256) ∷ (x / 16777216 % 256) ∷ []

-- the number that four bytes make
abbrev pub number_of : (a b c d : ℕ) → ℕ
number_of a b c d = a + b * 256 + c * 65536 + d * 16777216

-- the number whose first byte stands at place p
abbrev pub number_from : List ℕ → (p : ℕ) → ℕ
number_from bs p = number_of (slice_index bs p) (slice_index bs (p + 1)) (slice_index bs (p + 2)) (slice_index bs (p + 3))

-- the numbers that stand in bytes, one after another; fewer than four bytes at the end make none
abbrev pub numbers_in : List ℕ → List ℕ
numbers_in [] = []
numbers_in (a ∷ []) = []
numbers_in (a ∷ b ∷ []) = []
numbers_in (a ∷ b ∷ c ∷ []) = []
numbers_in (a ∷ b ∷ c ∷ d ∷ bs) = number_of a b c d ∷ numbers_in bs
