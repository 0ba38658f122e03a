-- The record in the middle of some records. Assumes nothing.
use Rattle.std.specs.Prelude.{ℕ, Bool, List}
use Rattle.records.specs.Middles.{FirstCentral}
use Rattle.logs.specs.Logs.{StandsAt}

-- x stands at the place of the first central record
pub record InMiddle {T : Type 0} (lesser : T → T → Bool) (records : List T) (x : T) : Type 0 where
  pub place : ℕ
  pub first_central : FirstCentral lesser records place
  pub stands : StandsAt records place x
