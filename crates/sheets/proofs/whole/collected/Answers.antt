use Rattle.std.proofs.Common.{◌≡◌, Err, rules, subst, arith}
use Rattle.sheets.proofs.Coming.{Numbered, Steps, no_lines, step}
use Rattle.sheets.proofs.whole.collected.Goals as goal

pub returns-in_err-sheet : goal.returns-in_err-sheet
returns-in_err-sheet c =
    let said : Numbered c.loop-rest.line c.line.result c.map_err.result = search rules in
    let at = step c.loop-rest.sheet c.loop-rest.line _ _ _ c.first_line.ensures.cut c.line.result c.line.ensures c.map_err.result said in
    let told : c.from_residual.result ≡ Err c.in_err-sheet.field-0.0 = search rules in
    rw told (c.loop-rest.invariant.whole _ (subst (Steps c.loop-rest.sheet c.loop-rest.line _ _) c.in_err-sheet.was at))

pub loop-rest-preserved : goal.loop-rest-preserved
loop-rest-preserved c =
    let said : Numbered c.loop-rest.line c.line.result c.map_err.result = search rules in
    let at = step c.loop-rest.sheet c.loop-rest.line _ _ _ c.first_line.ensures.cut c.line.result c.line.ensures c.map_err.result said in
    let on = subst (Steps c.loop-rest.sheet c.loop-rest.line _ _) c.in_ok-sheet.was at in
    record { whole = λ r more. c.loop-rest.invariant.whole r (on r more); count = omega (arith, c.loop-rest.invariant.count, c.first_line.ensures.shorter) }

pub returns : goal.returns
returns c = c.loop-rest.invariant.whole _ (rw (no_lines c.loop-rest.rest.now (search rules)) c.ended.ensures)
