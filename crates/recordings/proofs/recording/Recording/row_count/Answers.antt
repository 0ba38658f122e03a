use Rattle.std.proofs.Common.{◌≡◌, ◌/◌, length, sym, ap, ◌∙◌}
use Rattle.recordings.specs.Contents.{entries_of, rows_of}
use Rattle.recordings.proofs.Words.{length_numbers}
use Rattle.recordings.proofs.Columns.{length_column, rows_told}
use Rattle.recordings.proofs.recording.Recording.row_count.Goals as goal

pub returns : goal.returns
returns c =
    let s = c.args.self.now in
    let n : c.unwrap_or.result ≡ length (rows_of s) / length (entries_of s) =
    c.unwrap_or.ensures ∙ rows_told c.checked_div.result _ _ c.checked_div.ensures ∙ ap (λ z. z / c.channel_count.result) (sym (length_numbers s.rows.now)) ∙ ap (λ z. length (rows_of s) / z) c.channel_count.ensures in
    record { count = n; columns = λ k. length_column (rows_of s) (length (entries_of s)) k 0 _ ∙ sym n }
