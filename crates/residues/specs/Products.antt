-- Products of factors, any two of which are coprime. Assumes nothing.
use Rattle.std.specs.Prelude.{ℕ, ◌*◌, ◌<◌, List, [], ◌∷◌, length, slice_index}
use Rattle.residues.specs.Divisors.{Coprime}

abbrev pub product : List ℕ → ℕ
product [] = 1
product (g ∷ gs) = g * product gs

-- any two of them, at different places, share no divisor
abbrev pub PairwiseCoprime : List ℕ → Type 0
PairwiseCoprime gs = (j k : ℕ) → j < k → k < length gs → Coprime (slice_index gs j) (slice_index gs k)
