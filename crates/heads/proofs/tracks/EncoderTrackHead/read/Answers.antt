use Rattle.std.proofs.Common.{rules}
use Rattle.heads.proofs.Stepping.{track_reads}
use Rattle.heads.proofs.tracks.EncoderTrackHead.read.Goals as goal

pub returns : goal.returns
returns c =
    let s = c.args.self.now in
    track_reads s.modulus s.start s.step s.grain s.count s.taken _ c.in_ok-k.k _ (search rules) (search rules) c.reading_at.ensures
