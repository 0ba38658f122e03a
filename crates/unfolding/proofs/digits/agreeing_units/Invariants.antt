use Rattle.std.proofs.Common.{length}
use Rattle.settings.specs.Told.{factors_of}
use Rattle.unfolding.specs.Few.{items}
use Rattle.unfolding.proofs.Agreed.{Agreed}
use Rattle.unfolding.proofs.Rows.{Counts}
use Rattle.unfolding.proofs.digits.agreeing_units.Given as goal

abbrev pub invariant-loop-k : goal.invariant-loop-k
invariant-loop-k l = record {
  rows : Counts (factors_of l.setting) l.quotients l.initial.k-iterator;
  agreed : Agreed (factors_of l.setting) l.quotients (length l.yielded) (items l.digits) l.units l.weight;
}
