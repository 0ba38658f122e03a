use Rattle.std.proofs.Common.{replicate}
use Rattle.playbacks.proofs.Played.{plays_first, plays_none}
use Rattle.playbacks.proofs.playing.Playback.new.Goals as goal

pub returns : goal.returns
returns c = record { many = plays_none c.args.recording (replicate 8 0); plays = plays_first c.args.recording }
