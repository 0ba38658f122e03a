use Rattle.std.proofs.Common.{◌≡◌, ◌≤◌, take}
use Rattle.records.specs.Middles.{smaller, greater}
use Rattle.records.proofs.middles.standing.Given as goal

abbrev pub invariant-loop-y : goal.invariant-loop-y
invariant-loop-y g l = record {
  few_below : l.below ≤ l.y-index;
  few_above : l.above ≤ l.y-index;
  below : l.below ≡ smaller g.O.Order.lesser (take l.y-index l.items) l.x;
  above : l.above ≡ greater g.O.Order.lesser (take l.y-index l.items) l.x;
}
