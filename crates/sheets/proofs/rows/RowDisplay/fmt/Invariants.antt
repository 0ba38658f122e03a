use Rattle.std.proofs.Common.{◌≡◌, ℕ, ◌+◌, length, slice_get}
use Rattle.std.specs.Fmt.{IsPlainFormatter, HasWritten}
use Rattle.std.specs.Iterator.Adapters.{enumerate_count, enumerate_source}
use Rattle.recordings.specs.Contents.{entries_of, number_told, rows_of}
use Rattle.recordings.specs.Walking.{numbers_left}
use Rattle.sheets.specs.Rows.{cells}
use Rattle.sheets.proofs.rows.RowDisplay.fmt.Given as goal

abbrev pub invariant-loop-channel : goal.invariant-loop-channel
invariant-loop-channel g l = record {
  told : (k : ℕ) → slice_get (numbers_left (enumerate_source l.channel-iterator)) k ≡ number_told l.self.recording l.self.row (enumerate_count l.channel-iterator + k);
  ends : enumerate_count l.channel-iterator + length (numbers_left (enumerate_source l.channel-iterator)) ≡ length (entries_of l.self.recording);
  wrote : IsPlainFormatter l.initial.f → HasWritten g.W.Write.write_str_gives l.initial.f (cells (rows_of l.self.recording) (length (entries_of l.self.recording)) l.self.row (enumerate_count l.channel-iterator)) l.f;
}
