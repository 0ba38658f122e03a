use Rattle.playbacks.proofs.Played.{plays_checked}
use Rattle.playbacks.proofs.playing.Playback.of.Goals as goal

pub returns : goal.returns
returns c = rw c.ok.ensures.value (plays_checked c.args.bytes.now c.check.result c.check.ensures.only_one c.check.ensures.never_both c.check.ensures.checked)
