use Rattle.std.proofs.Common.{Ok, is_ok, ap}
use Rattle.std.proofs.Output.{writes_in_calls_nil}
use Rattle.tables.proofs.Texts.{spaced_more, spaced_all, writes_both, writes_all}
use Rattle.tables.proofs.answers.SpacedDisplay.fmt.Goals as goal

pub loop-n-init : goal.loop-n-init
loop-n-init g c = λ plain. record { wrote = writes_in_calls_nil g.W.Write.write_str_gives _; plain = plain }

pub loop-n-preserved : goal.loop-n-preserved
loop-n-preserved g c = λ plain.
    rw (spaced_more g.T.Display.output _ _ _ c.loop-n-test.true c.n-item.is)
    (writes_both g.W.Write.write_str_gives _ _ _ _ _ _ (c.loop-n.invariant plain) c.write.ensures.writes (ap is_ok c.in_ok-write.was))

pub returns-clause-writes : goal.returns-clause-writes
returns-clause-writes g c = writes_all g.W.Write.write_str_gives _ _ (Ok tt) _ _ (spaced_all g.T.Display.output _ _ c.loop-n-test.false) c.loop-n.invariant
