use Rattle.std.proofs.Common.{Ok, rules}
use Rattle.playbacks.specs.Columns.{Found}
use Rattle.playbacks.specs.Playing.{playback_channels}
use Rattle.playbacks.proofs.Played.{reads_none, reads_column}
use Rattle.playbacks.proofs.playing.PlaybackBank.read.Goals as goal

pub returns-in_err-column : goal.returns-in_err-column
returns-in_err-column c = let s = c.args.self.now in reads_none (playback_channels s.recording s.rows) c.args.channel _ (search rules) (search rules)

pub returns : goal.returns
returns c =
    let s = c.args.self.now in
    let f : Found s.recording c.args.channel (Ok c.in_ok-column.column) = c.in_ok-column.ensures in
    let b = f.1.within in
    reads_column s.recording s.rows c.args.channel c.in_ok-column.column f c.read-answer.new.at c.read-answer.result c.map_err.result (search rules) c.read-answer.ensures (search rules)
