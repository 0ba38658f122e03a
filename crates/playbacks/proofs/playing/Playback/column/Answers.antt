use Rattle.std.proofs.Common.{rules}
use Rattle.playbacks.proofs.Played.{found, of_each}
use Rattle.playbacks.proofs.playing.Playback.column.Goals as goal

pub returns : goal.returns
returns c = rw c.ok_or.ensures.value (found c.args.self.now.recording c.args.channel c.and_then.result (of_each c.args.self.now.recording c.and_then.ensures (λ e. e) (λ r p. search rules)))
