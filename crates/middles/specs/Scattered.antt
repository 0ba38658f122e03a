-- Numbers without an order of their own: each is stirred from its place.
use Rattle.std.specs.Prelude.{ℕ, ◌*◌, ◌/◌, ◌%◌, ◌^◌, List, map, ℤ, pos, bit_xor}
use Rattle.std.specs.List.{range_with_len}

-- the high bits onto the low ones, and the low ones up by a factor
abbrev pub stir : (k m z : ℕ) → ℕ
stir k m z = (bit_xor z (z / 2 ^ k) * m) % 2 ^ 64

abbrev pub scatter : ℕ → ℤ
scatter i = pos (stir 27 0x94D049BB133111EB (stir 30 0xBF58476D1CE4E5B9 (i * 0x9E3779B97F4A7C15 % 2 ^ 64)) / 2)

abbrev pub scattered_list : ℕ → List ℤ
scattered_list n = map scatter (range_with_len 0 n)
