use Rattle.layers.proofs.Standing.{zero_stands}
use Rattle.layers.proofs.zeros.Zero.new.Goals as goal

pub returns-clause-stands : goal.returns-clause-stands
returns-clause-stands g c = zero_stands _ _
