use Rattle.std.proofs.Common.{◌<◌, [], length, get_or, refl, ◌∙◌, arith, length-set}
use Rattle.settings.proofs.Filled.{column_more, earlier_stay, rows_stay, shares}
use Rattle.settings.proofs.candidates.Candidate.invert.Goals as goal

pub loop-second-preserved : goal.loop-second-preserved
loop-second-preserved c =
    let gs = c.args.self.now.factors.now in
    let table = c.loop-second.inverses in
    let j = c.args.first in
    let k = c.loop-second.second in
    let inv = c.loop-second.invariant in
    let h : k < length table = omega arith in
    let r : j < length (get_or table k []) = omega (arith, inv.1 k h) in (
      length-set table k _ ∙ inv.0,
      rows_stay table j k _ h inv.1,
      earlier_stay gs table j k _ h inv.2,
      column_more gs table j k _ h r c.in-Ok.ensures inv.3,
    )

pub returns-in-Err-clause-told : goal.returns-in-Err-clause-told
returns-in-Err-clause-told c =
    let inv = c.loop-second.invariant in
    let is = c.in-Err.ensures in
    (_, _, _, refl, shares c.args.self.now.factors.now c.loop-second.inverses _ _ _ (omega arith) (omega arith) is.0 is.1 inv.2 inv.3)
