use Rattle.std.proofs.Common.{◌≡◌, ◌-◌, ◌/◌, ◌<◌, length, count_by}
use Rattle.std.specs.Option.{option_copied}
use Rattle.records.specs.Bounds.{Holds, above_bound, below_bound, between}
use Rattle.records.proofs.narrowing.middle_of_many.Given as goal

abbrev pub invariant-loop-p : goal.invariant-loop-p
invariant-loop-p g l = record {
  same : l.narrowing.items.now ≡ l.items;
  low_holds : Holds l.items (option_copied l.narrowing.low);
  high_holds : Holds l.items (option_copied l.narrowing.high);
  many : 0 < length l.items → (length l.items / 2 < count_by (above_bound g.O.Order.lesser (option_copied l.narrowing.low)) l.items)
      × ((length l.items - 1) / 2 < count_by (below_bound g.O.Order.lesser (option_copied l.narrowing.high)) l.items);
}

abbrev pub decreases-loop-p : goal.decreases-loop-p
decreases-loop-p g l = count_by (between g.O.Order.lesser (option_copied l.narrowing.low) (option_copied l.narrowing.high)) l.items
