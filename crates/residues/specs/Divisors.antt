-- Common divisors, and numbers that share none. Assumes nothing.
use Rattle.std.specs.Prelude.{◌≡◌, ℕ}
use Rattle.std.specs.Int.{◌∣◌}

-- d is the greatest common divisor of a and b: every common divisor divides it
pub record Greatest (a b d : ℕ) : Type 0 where
  pub left : d ∣ a
  pub right : d ∣ b
  pub greatest : (c : ℕ) → c ∣ a → c ∣ b → c ∣ d

-- no number but 1 divides both
abbrev pub Coprime : ℕ → ℕ → Type 0
Coprime a b = (d : ℕ) → d ∣ a → d ∣ b → d ≡ 1
