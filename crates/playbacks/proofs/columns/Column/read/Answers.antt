use Rattle.std.proofs.Common.{ℕ, Some, None, Option, sym, ap, ◌∙◌, subst, arith, rules}
use Rattle.heads.specs.Advancing.{Advances}
use Rattle.heads.specs.Answers.{answered}
use Rattle.heads.specs.PhaseTables.{entry_of}
use Rattle.heads.proofs.Stepping.{table_reads}
use Rattle.recordings.specs.Contents.{column_of}
use Rattle.playbacks.proofs.Told.{number_is, number_not_none}
use Rattle.playbacks.proofs.columns.Column.read.Goals as goal

pub returns-in_err-row : goal.returns-in_err-row
returns-in_err-row c =
    let s = c.args.self.now in
    let n = c.row_count.ensures.columns s.channel in
    let a : Advances c.row_count.result c.args.at.now None c.advance.new.at = subst (λ (o : Option ℕ). Advances c.row_count.result c.args.at.now o c.advance.new.at) c.in_err-row.ensures.ok_part c.advance.ensures in
    table_reads s.entry.modulus s.entry.bound c.args.at.now _ (column_of s.recording s.channel) None _ (search rules) (omega (arith, a.0), a.1) (search rules)

pub unreachable-requires : goal.unreachable-requires
unreachable-requires c =
    let s = c.args.self.now in
    let n = c.row_count.ensures.columns s.channel in
    let a : Advances c.row_count.result c.args.at.now (Some c.in_ok-row.row) c.advance.new.at = subst (λ (o : Option ℕ). Advances c.row_count.result c.args.at.now o c.advance.new.at) c.in_ok-row.ensures.ok_part c.advance.ensures in
    number_not_none s.recording s.channel c.in_ok-row.row s.entry s.known (omega (arith, a.0, a.1)) (sym c.in_default.ensures)

pub returns : goal.returns
returns c =
    let s = c.args.self.now in
    let n = c.row_count.ensures.columns s.channel in
    let a : Advances c.row_count.result c.args.at.now (Some c.in_ok-row.row) c.advance.new.at = subst (λ (o : Option ℕ). Advances c.row_count.result c.args.at.now o c.advance.new.at) c.in_ok-row.ensures.ok_part c.advance.ensures in
    let told = number_is s.recording s.channel c.in_ok-row.row s.entry s.known c.in-Some.number (omega (arith, a.0, a.1)) (sym c.in-Some.ensures) in
    table_reads s.entry.modulus s.entry.bound c.args.at.now _ (column_of s.recording s.channel) (Some c.in_ok-row.row) _ (search rules) (omega (arith, a.0), a.1, a.2)
    (c.phase_reading.ensures ∙ ap (λ (x : ℕ). answered (entry_of s.entry.modulus x)) told)
