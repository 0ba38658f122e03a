use Rattle.unfolding.proofs.Computed.{worked}
use Rattle.unfolding.proofs.examples.worked_unfoldings.Goals as goal

pub returns : goal.returns
returns c = worked
