use Rattle.std.proofs.Common.{rules}
use Rattle.playbacks.proofs.Played.{counted, of_each}
use Rattle.playbacks.proofs.playing.PlaybackBank.count.Goals as goal

pub returns : goal.returns
returns c = counted c.args.self.now.recording c.args.self.now.rows c.map_or.result (of_each c.args.self.now.recording c.map_or.ensures (λ e. e) (λ r p. search rules))
