use Rattle.std.proofs.Common.{◌≡◌, ◌*◌, ◌^◌, get_or, pos, neg_ℤ, ◌≤ℤ◌}
use Rattle.unfolding.specs.Channels.{total}
use Rattle.unfolding.proofs.means.rounded.Given as goal

abbrev pub invariant-loop-reading : goal.invariant-loop-reading
invariant-loop-reading l = record {
  sum_is : l.sum ≡ total l.reading-index (λ i. get_or l.unfolded i (pos 0));
  low : neg_ℤ (pos (2 ^ 42 * l.reading-index)) ≤ℤ l.sum;
  high : l.sum ≤ℤ pos (2 ^ 42 * l.reading-index);
}
