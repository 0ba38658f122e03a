use Rattle.std.proofs.Common.{length}
use Rattle.std.specs.Fmt.{IsPlainFormatter, HasWritten}
use Rattle.recordings.specs.Contents.{entries_of, rows_of}
use Rattle.sheets.specs.Rows.{row_lines}
use Rattle.sheets.proofs.rows.RowsDisplay.fmt.Given as goal

abbrev pub invariant-loop-row : goal.invariant-loop-row
invariant-loop-row g l = IsPlainFormatter l.initial.f → HasWritten g.W.Write.write_str_gives l.initial.f (row_lines (rows_of l.self.0) (length (entries_of l.self.0)) l.row) l.f
