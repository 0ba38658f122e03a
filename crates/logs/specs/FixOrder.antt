-- The order of fixes. Assumes nothing.
use Rattle.std.specs.Prelude.{◌≡◌, ℕ, ◌<◌, Bool, ◌⊎◌, nat_lt}
use Rattle.records.specs.declared.fixes.Fix.{Fix}
use Rattle.records.specs.Orders.{in_turn}

-- what a fix is ordered by: the mean, and then the count
abbrev pub fix_key : Fix → ℕ × ℕ
fix_key f = (f.mean, f.count)

abbrev pub key_lesser : ℕ × ℕ → ℕ × ℕ → Bool
key_lesser = in_turn nat_lt nat_lt

abbrev pub fix_lesser : Fix → Fix → Bool
fix_lesser f g = key_lesser (fix_key f) (fix_key g)

-- the same without tests: f comes before g
abbrev pub Before : Fix → Fix → Type 0
Before f g = (f.mean < g.mean) ⊎ ((f.mean ≡ g.mean) × (f.count < g.count))
