use Rattle.std.proofs.Common.{arith}
use Rattle.residues.proofs.Turns.{start, again, ended}
use Rattle.residues.proofs.divisors.euclid.Goals as goal

pub loop-next-init : goal.loop-next-init
loop-next-init c = start _ _ (omega arith)

pub loop-next-preserved : goal.loop-next-preserved
loop-next-preserved c = rw c.rest.ensures (again c.args.a c.args.m c.loop-next.last c.loop-next.next (omega arith) c.loop-next.invariant)

pub returns : goal.returns
returns c = ended _ _ _ _ c.loop-next-test.false c.loop-next.invariant
