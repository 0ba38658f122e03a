use Rattle.std.proofs.Common.{arith}
use Rattle.std.proofs.lemmas.Bool.{le-leb, leb-true}
use Rattle.recordings.proofs.Places.{length_encoded}
use Rattle.encoding.proofs.contents.Contents.fits_in.Goals as goal

pub returns-then-bytes-room : goal.returns-then-bytes-room
returns-then-bytes-room c =
    let s = c.args.self.now in
    let l = length_encoded s.note.now s.rows.now s.entries.now in
    (λ t. let b = leb-true _ _ t in record { in_room = omega arith; in_limit = omega arith }, λ f. le-leb _ _ (omega (arith, f.in_room, f.in_limit)))

pub returns-else-bytes-room : goal.returns-else-bytes-room
returns-else-bytes-room c =
    let s = c.args.self.now in
    let l = length_encoded s.note.now s.rows.now s.entries.now in
    (λ t. let b = leb-true _ _ t in absurd (omega arith), λ f. absurd (omega (arith, f.in_room, f.in_limit)))
