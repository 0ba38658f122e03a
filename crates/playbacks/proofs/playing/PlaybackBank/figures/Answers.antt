use Rattle.playbacks.proofs.Played.{tells_column}
use Rattle.playbacks.proofs.playing.PlaybackBank.figures.Goals as goal

pub returns : goal.returns
returns c = let s = c.args.self.now in tells_column s.recording s.rows c.args.channel c.in_ok-column.column c.in_ok-column.ensures c.figures.result c.figures.ensures
