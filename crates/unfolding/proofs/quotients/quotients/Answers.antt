use Rattle.std.proofs.Common.{rules}
use Rattle.unfolding.specs.Folds.{quotient_at}
use Rattle.unfolding.proofs.Filled.{pushed}
use Rattle.unfolding.proofs.quotients.quotients.Goals as goal

pub loop-reading-preserved : goal.loop-reading-preserved
loop-reading-preserved c = pushed (quotient_at c.args.unit c.args.readings.now) _ _ _ _ c.loop-reading.invariant (search rules) c.quotient.ensures c.push.ensures
