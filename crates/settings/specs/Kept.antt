-- What a setting keeps beside its unit and factors. Assumes nothing.
use Rattle.std.specs.Prelude.{◌≡◌, ℕ, ◌*◌, ◌%◌, ◌<◌, List, [], slice_index, slice_index_or}

-- the inverse of an earlier factor j modulo a later factor k is kept at place j of row k
abbrev pub inverse_at : List (List ℕ) → (j k : ℕ) → ℕ
inverse_at table j k = slice_index (slice_index_or table k []) j

-- each inverse is below its modulus
abbrev pub InversesBelow : (n : ℕ) → List ℕ → List (List ℕ) → Type 0
InversesBelow n gs table = (j k : ℕ) → (j < k) × (k < n) → inverse_at table j k < slice_index gs k

-- and times its factor it is 1
abbrev pub InversesInvert : (n : ℕ) → List ℕ → List (List ℕ) → Type 0
InversesInvert n gs table = (j k : ℕ) → (j < k) × (k < n) → (slice_index gs j * inverse_at table j k) % slice_index gs k ≡ 1

abbrev pub Moduli : (u n : ℕ) → (gs ms : List ℕ) → Type 0
Moduli u n gs ms = (k : ℕ) → k < n → slice_index ms k ≡ u * slice_index gs k
