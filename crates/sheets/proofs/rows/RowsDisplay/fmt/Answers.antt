use Rattle.std.proofs.Common.{length, is_ok, ap}
use Rattle.std.proofs.Output.{has_written_append, has_written_of_eq}
use Rattle.recordings.specs.Contents.{entries_of, rows_of}
use Rattle.sheets.proofs.Texts.{row_more}
use Rattle.sheets.proofs.rows.RowsDisplay.fmt.Goals as goal

pub loop-row-preserved : goal.loop-row-preserved
loop-row-preserved g c =
    λ plain.
    let so = c.loop-row.invariant plain in
    has_written_of_eq g.W.Write.write_str_gives _ _ _ _ (row_more (rows_of c.args.self.now.0) (length (entries_of c.args.self.now.0)) c.loop-row.row)
    (has_written_append g.W.Write.write_str_gives _ _ _ _ _ so (c.write.ensures.writes so.plain (ap is_ok c.in_ok-write.was)))
