use Rattle.std.proofs.Common.{Less, Equal, Greater, arith}
use Rattle.records.proofs.Counts.{one_more}
use Rattle.records.proofs.middles.standing.Goals as goal
use Rattle.records.proofs.middles.standing.Goals.{in-Less, in-Equal, in-Greater}

pub loop-y-preserved : goal.loop-y-preserved
loop-y-preserved g c =
    let more = one_more g.O.Order.lesser g.met.O.Order.laws c.args.items.now c.loop-y.y-index c.y-item.result c.args.x.now c.loop-y-test.true c.y-item.is in
    elim c.match-compared.branch [
      | in-Less w ↦ let m = more Less w.in-Less.ensures in record { few_below = omega arith; few_above = omega arith; below = omega arith; above = omega arith }
      | in-Equal w ↦ let m = more Equal w.in-Equal.ensures in record { few_below = omega arith; few_above = omega arith; below = omega arith; above = omega arith }
      | in-Greater w ↦ let m = more Greater w.in-Greater.ensures in record { few_below = omega arith; few_above = omega arith; below = omega arith; above = omega arith }
    ]
