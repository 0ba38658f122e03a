-- Going through n places, one at a time. Assumes nothing.
use Rattle.std.specs.Prelude.{◌≡◌, ℕ, ◌+◌, ◌<◌, ◌≤◌, Some, None, Option}

-- from place i on: none is left, and nothing moves; or it is i, and then j is one on
abbrev pub Advances : (n i : ℕ) → Option ℕ → (j : ℕ) → Type 0
Advances n i None j = (n ≤ i) × (j ≡ i)
Advances n i (Some k) j = (i < n) × (k ≡ i) × (j ≡ i + 1)
