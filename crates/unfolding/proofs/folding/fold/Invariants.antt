use Rattle.std.proofs.Common.{◌≡◌, length}
use Rattle.settings.specs.Told.{factors_of, unit_of}
use Rattle.unfolding.specs.Channels.{by_channel}
use Rattle.unfolding.specs.Few.{items}
use Rattle.unfolding.proofs.Known.{Known, turns_at, put_back}
use Rattle.unfolding.proofs.folding.fold.Given as goal

abbrev pub invariant-loop-factor : goal.invariant-loop-factor
invariant-loop-factor l = record {
  known : Known (unit_of l.setting) (factors_of l.setting) l.fn.readings l.units l.initial.factor-iterator;
  folds_are : items l.folds ≡ by_channel (length l.yielded) (turns_at (unit_of l.setting) (factors_of l.setting) l.fn.readings l.units);
  unfolded_are : items l.unfolded ≡ by_channel (length l.yielded) (put_back (unit_of l.setting) (factors_of l.setting) l.fn.readings l.units);
}
