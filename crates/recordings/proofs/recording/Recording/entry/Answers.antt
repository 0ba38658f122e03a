use Rattle.std.proofs.Common.{ltb, ap, ◌∙◌, rules}
use Rattle.std.proofs.lemmas.Option.{IfSome_then}
use Rattle.recordings.proofs.Columns.{entry_told}
use Rattle.recordings.proofs.recording.Recording.entry.Goals as goal

pub returns : goal.returns
returns c =
    entry_told c.args.self.now.entries.now c.args.channel c.then.result (c.then.ensures.variant ∙ ap (ltb c.args.channel) c.channel_count.ensures)
    (IfSome_then c.then.result c.then.ensures.some (λ x p. search rules))
