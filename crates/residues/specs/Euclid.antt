-- What one run of Euclid's method tells. Assumes nothing.
use Rattle.std.specs.Prelude.{◌≡◌, ℕ, ◌+◌, ◌-◌, ◌*◌, ◌/◌, ◌%◌, ◌<◌, Some, None, Option}
use Rattle.residues.specs.declared.divisors.Shared.{Shared}
use Rattle.residues.specs.Divisors.{Greatest}

-- the greatest common divisor of a and m, and what a is to be multiplied by to give it modulo m
pub record Tells (a m : ℕ) (s : Shared) : Type 0 where
  pub greatest : Greatest a m s.divisor
  pub below : s.cofactor < m
  pub cofactor : (a * s.cofactor) % m ≡ s.divisor % m

abbrev pub Runs : ℕ → ℕ → Option Shared → Type 0
Runs a m None = m ≡ 0
Runs a m (Some s) = Tells a m s

-- one turn: what the one divisor leaves of the other, and the cofactor that goes with it
abbrev pub rest_of : ℕ → Shared → Shared → Shared
rest_of m s t = record { divisor = s.divisor % t.divisor; cofactor = (s.cofactor + (m - (s.divisor / t.divisor * t.cofactor) % m)) % m }
