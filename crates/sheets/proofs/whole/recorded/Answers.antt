use Rattle.std.proofs.Common.{◌≡◌, Ok, Err, vec_items, rules, subst}
use Rattle.sheets.specs.Making.{NotEncoded, entries_of_table}
use Rattle.sheets.specs.Whole.{Reads}
use Rattle.sheets.specs.declared.whole.NotRecorded.TheVariants.{Unwritten}
use Rattle.sheets.proofs.whole.recorded.Goals as goal

pub returns-in_err-bytes : goal.returns-in_err-bytes
returns-in_err-bytes c =
    let s = c.in_ok-collected.field-0 in
    let read : Reads c.args.text.now (Ok s) = subst (Reads c.args.text.now) c.in_ok-collected.was c.collected.ensures in
    let refused : NotEncoded (vec_items s.note) (vec_items s.rows) (entries_of_table s) c.in_err-bytes.field-0.0 = search rules in
    let told : c.from_residual-in_err-bytes.result ≡ Err (Unwritten c.in_err-bytes.field-0.0) = search rules in
    rw told (s, read, refused)
