-- What an unfolding tells, and what unfolding answers. Assumes nothing.
use Rattle.std.specs.Prelude.{◌≡◌, ℕ, ◌+◌, ◌*◌, ◌≤◌, List, length, pos, ◌+ℤ◌, ◌-ℤ◌, ◌≤ℤ◌, Ok, Err, Result}
use Rattle.residues.specs.Circle.{◌modulo◌}
use Rattle.settings.specs.declared.kept.Setting.{Setting}
use Rattle.settings.specs.Settings.{range_of}
use Rattle.settings.specs.Told.{unit_of, factors_of}
use Rattle.unfolding.specs.declared.kept.Unfolding.{Unfolding}
use Rattle.unfolding.specs.declared.refusals.UnfoldRefusal.{UnfoldRefusal}
use Rattle.unfolding.specs.Told.{quotients_of, folds_of, unfolded_of}
use Rattle.unfolding.specs.Channels.{by_channel, GreatestAt, LeastAt}
use Rattle.unfolding.specs.Folds.{quotient_at, fold_at, unfolded_at, FoldsWell}
use Rattle.unfolding.specs.Robust.{Robust}
use Rattle.unfolding.specs.Brackets.{Allowed, Exact, MeanNear, low_at, high_at, rounded_mean}
use Rattle.unfolding.specs.Refusals.{AllFine, UnfoldRefused}

-- the numbers, from the readings and bounds
pub record Unfolds (u : ℕ) (gs rs ts : List ℕ) (w : Unfolding) : Type 0 where
  pub checked : AllFine u gs rs ts
  pub n : ℕ
  pub quotients_are : quotients_of w.folding ≡ by_channel (length gs) (quotient_at u rs)
  pub folds_well : FoldsWell u gs rs n
  pub folds_are : folds_of w.folding ≡ by_channel (length gs) (fold_at u gs rs n)
  pub unfolded_are : unfolded_of w.folding ≡ by_channel (length gs) (unfolded_at u gs rs n)
  pub robust : Robust u gs rs n
  pub lo_channel : ℕ
  pub lo_is : GreatestAt (length gs) (low_at u gs rs ts n) w.ends.0 lo_channel
  pub hi_channel : ℕ
  pub hi_is : LeastAt (length gs) (high_at u gs rs ts n) w.ends.1 hi_channel
  pub in_order : w.ends.0 ≤ℤ w.ends.1
  pub start_is : w.start ≡ w.ends.0 modulo range_of u gs
  pub count_is : pos w.count ≡ w.ends.1 -ℤ w.ends.0 +ℤ pos 1
  pub mean_is : w.mean ≡ rounded_mean u gs rs n modulo range_of u gs
  pub narrow : 2 * w.count ≤ u + 1
  pub exact : Exact (range_of u gs) w.start w.count (Allowed u gs rs ts)
  pub mean_near : MeanNear (range_of u gs) w.start w.count w.mean ts

abbrev pub UnfoldAnswers : (s : Setting) (rs ts : List ℕ) → Result Unfolding UnfoldRefusal → Type 0
UnfoldAnswers s rs ts (Ok w) = Unfolds (unit_of s) (factors_of s) rs ts w
UnfoldAnswers s rs ts (Err e) = UnfoldRefused (unit_of s) (factors_of s) rs ts e
