use Rattle.std.proofs.Common.{◌≡◌, ℕ, ◌++◌}
use Rattle.std.specs.Fmt.{IsPlainFormatter, HasWritten}
use Rattle.recordings.specs.declared.entries.ChannelEntry.{ChannelEntry}
use Rattle.recordings.specs.Contents.{entries_of}
use Rattle.recordings.specs.Walking.{entries_left}
use Rattle.sheets.specs.Rows.{figure_words}
use Rattle.sheets.proofs.rows.write_figures.Given as goal

abbrev pub invariant-loop-entry : goal.invariant-loop-entry
invariant-loop-entry g l = record {
  left : l.yielded ++ entries_left l.entry-iterator ≡ entries_of l.recording;
  wrote : (figure_of : ChannelEntry → ℕ) → ((e : ChannelEntry) (n : ℕ) → goal.F-post g l.figure e n → n ≡ figure_of e) → IsPlainFormatter l.initial.f → HasWritten g.W.Write.write_str_gives l.initial.f (figure_words figure_of l.yielded) l.f;
}
