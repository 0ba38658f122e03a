-- The tables that a setting is made with. Assumes nothing.
use Rattle.std.specs.Prelude.{◌≡◌, ℕ, ◌<◌, List, [], length, slice_index, slice_index_or}
use Rattle.settings.specs.Kept.{Moduli, inverse_at}
use Rattle.settings.specs.Settings.{ModulusFits}
use Rattle.settings.specs.Told.{Inverse}

-- the modulus of each channel, all within the limits
pub record ModuliMade (u : ℕ) (gs ms : List ℕ) : Type 0 where
  pub are : Moduli u (length gs) gs ms
  pub fit : (k : ℕ) → k < length gs → ModulusFits u gs k

-- a place in each row for each channel that a setting may have
abbrev pub RowsOfEight : List (List ℕ) → Type 0
RowsOfEight table = (k : ℕ) → k < length table → length (slice_index_or table k []) ≡ 8

-- the inverses of the first n factors, modulo each factor after them
abbrev pub InversesMade : List ℕ → List (List ℕ) → (n : ℕ) → Type 0
InversesMade gs table n = (j k : ℕ) → j < n → j < k → k < length gs → Inverse (slice_index gs j) (slice_index gs k) (inverse_at table j k)
