-- What a folding keeps of the readings. Assumes nothing.
use Rattle.std.specs.Prelude.{◌≡◌, ℕ, List, length}
use Rattle.unfolding.specs.declared.kept.Folding.{Folding}
use Rattle.unfolding.specs.Channels.{by_channel, Moderate}
use Rattle.unfolding.specs.Folds.{quotient_at, Turns, fold_at, unfolded_at}
use Rattle.unfolding.specs.Told.{quotients_of, folds_of, unfolded_of}

-- for each channel its quotient, its folding number and its unfolded reading, where channel 0's folding number is `first_folds`
pub record Folded (u : ℕ) (gs rs : List ℕ) (f : Folding) : Type 0 where
  pub first_folds : ℕ
  pub turns : Turns u gs rs first_folds
  pub quotients_are : quotients_of f ≡ by_channel (length gs) (quotient_at u rs)
  pub folds_are : folds_of f ≡ by_channel (length gs) (fold_at u gs rs first_folds)
  pub unfolded_are : unfolded_of f ≡ by_channel (length gs) (unfolded_at u gs rs first_folds)
  -- none of them is beyond what the machine's sums can take
  pub moderate : Moderate (unfolded_of f)
