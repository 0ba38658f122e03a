use Rattle.layers.proofs.Standing.{gear_stands}
use Rattle.layers.proofs.gears.Gear.new.Goals as goal

pub returns-clause-stands : goal.returns-clause-stands
returns-clause-stands g c = gear_stands _ _ _
