use Rattle.std.proofs.Common.{ℕ, ◌<◌, length}
use Rattle.settings.specs.Told.{factors_of, unit_of}
use Rattle.unfolding.specs.Refusals.{FineAt}
use Rattle.unfolding.proofs.checks.check.Given as goal

abbrev pub invariant-loop-channel : goal.invariant-loop-channel
invariant-loop-channel l = (i : ℕ) → i < length l.yielded → FineAt (unit_of l.setting) (factors_of l.setting) l.fn.readings l.fn.bounds i
