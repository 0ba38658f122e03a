use Rattle.std.proofs.Common.{◌≡◌}
use Rattle.unfolding.specs.Channels.{by_channel}
use Rattle.unfolding.specs.Few.{items}
use Rattle.unfolding.specs.Folds.{quotient_at}
use Rattle.unfolding.proofs.quotients.quotients.Given as goal

abbrev pub invariant-loop-reading : goal.invariant-loop-reading
invariant-loop-reading l = items l.rounded ≡ by_channel l.reading-index (quotient_at l.unit l.readings)
