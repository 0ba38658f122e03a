use Rattle.tables.proofs.Texts.{line_known}
use Rattle.tables.proofs.answers.UnfoldingLineDisplay.fmt.Goals as goal

pub returns-clause-writes : goal.returns-clause-writes
returns-clause-writes g c =
    rw (← c.folds.ensures, ← c.unfolded.ensures, ← c.start-start.ensures, ← c.count-count.ensures, ← c.mean-mean.ensures)
    (line_known g.W.Write.write_str_gives c.args.f.now c.write.new.self c.write.result c.folds.result.now c.unfolded.result.now c.start-start.result c.count-count.result c.mean-mean.result c.write.ensures.writes)
