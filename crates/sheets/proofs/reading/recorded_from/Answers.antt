use Rattle.std.proofs.Common.{◌≡◌, Ok, Err, IfSome, MatchResult, vec_items, rules, subst}
use Rattle.sheets.specs.Making.{Encodes, NotEncoded, entries_of_table}
use Rattle.sheets.specs.Reading.{Misread}
use Rattle.sheets.specs.Whole.{Reads}
use Rattle.sheets.specs.declared.reading.Unrecorded.TheVariants.{Unmade}
use Rattle.sheets.specs.declared.whole.NotRecorded.TheVariants.{Unwritten}
use Rattle.sheets.proofs.Pieces.{if_known}
use Rattle.sheets.proofs.reading.recorded_from.Goals as goal

pub returns-in_err-bytes : goal.returns-in_err-bytes
returns-in_err-bytes g c =
    let s = c.in_ok-collected_from.field-0 in
    let refused : NotEncoded (vec_items s.note) (vec_items s.rows) (entries_of_table s) c.in_err-bytes.field-0.0 = search rules in
    let told : c.from_residual-in_err-bytes.result ≡ Err (Unmade (Unwritten c.in_err-bytes.field-0.0)) = search rules in
    rw told (if_known (g.B.Read.remaining c.args.input) (λ text known.
    let collected = subst (λ o. IfSome o (λ t. MatchResult c.collected_from.result (λ u. Reads t (Ok u)) (Misread t))) known c.collected_from.ensures in
    let read = subst (λ r. MatchResult r (λ u. Reads text (Ok u)) (Misread text)) c.in_ok-collected_from.was collected in
    (s, read, refused)))

pub returns : goal.returns
returns g c =
    let s = c.in_ok-collected_from.field-0 in
    let made : Encodes (vec_items s.note) (vec_items s.rows) (entries_of_table s) (vec_items c.in_ok-bytes.bytes) = search rules in
    if_known (g.B.Read.remaining c.args.input) (λ text known.
    let collected = subst (λ o. IfSome o (λ t. MatchResult c.collected_from.result (λ u. Reads t (Ok u)) (Misread t))) known c.collected_from.ensures in
    let read = subst (λ r. MatchResult r (λ u. Reads text (Ok u)) (Misread text)) c.in_ok-collected_from.was collected in
    (s, read, made))
