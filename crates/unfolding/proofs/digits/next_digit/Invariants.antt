use Rattle.std.proofs.Common.{◌≡◌, ◌<◌, drop, length}
use Rattle.unfolding.specs.Digits.{peeled}
use Rattle.unfolding.proofs.digits.next_digit.Given as goal

abbrev pub invariant-loop-digit : goal.invariant-loop-digit
invariant-loop-digit l = record {
  below : l.left < l.factor;
  peels : peeled l.factor l.left (drop (length l.yielded) l.inverses) (drop (length l.yielded) l.digits) ≡ peeled l.factor l.residue l.inverses l.digits;
}
