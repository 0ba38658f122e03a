use Rattle.residues.proofs.Turns.{State}
use Rattle.residues.proofs.divisors.euclid.Given as goal

abbrev pub invariant-loop-next : goal.invariant-loop-next
invariant-loop-next l = State l.a l.m l.last l.next

abbrev pub decreases-loop-next : goal.decreases-loop-next
decreases-loop-next l = l.next.divisor
