use Rattle.std.proofs.Common.{◌+◌, length}
use Rattle.unfolding.specs.Channels.{GreatestAt, LeastAt}
use Rattle.unfolding.specs.Ends.{begins_at, ends_at}
use Rattle.unfolding.proofs.Rows.{CountsLater}
use Rattle.unfolding.proofs.ends.Ends.of.Given as goal

abbrev pub invariant-loop-channel : goal.invariant-loop-channel
invariant-loop-channel l = record {
  rows : CountsLater l.unfolded l.bounds l.initial.channel-iterator;
  lo : GreatestAt (length l.yielded + 1) (begins_at l.unfolded l.bounds) l.lo.at l.lo.channel;
  hi : LeastAt (length l.yielded + 1) (ends_at l.unfolded l.bounds) l.hi.at l.hi.channel;
}
