use Rattle.std.proofs.Common.{◌≡◌, ◌+◌, ◌*◌, ◌-◌, ◌≤◌, length, ap, ◌∙◌, arith, mul-le-mul_left}
use Rattle.std.proofs.lemmas.List.{length-drop, length-take-le}
use Rattle.encoding.proofs.Pieces.{part_more, part_all}
use Rattle.encoding.proofs.parts.put_each.Goals as goal

pub loop-i-preserved : goal.loop-i-preserved
loop-i-preserved g c =
    let n = g.row.N in
    let i = c.loop-i.i in
    let fits : n * (i + 1) ≤ n * length c.args.items.now = mul-le-mul_left n (omega arith) in
    let span : n * i + n - n * i ≡ n = omega arith in
    let long : length c.copy_from_slice.new.self ≡ n = c.copy_from_slice.ensures.len ∙ length-take-le _ _ (simp length-drop (omega arith)) ∙ span in
    part_more g.I.Item.spelled i c.args.items.now c.index-items-i.result _ _ _ c.loop-i.part c.copy_from_slice.new.self (omega arith) (omega arith) (omega arith)
    (c.copy_from_slice.ensures.after ∙ c.bytes.ensures ∙ ap g.I.Item.spelled c.index-items-i.is) c.loop-i.invariant

pub returns : goal.returns
returns g c =
    let all : g.row.N * length c.args.items.now ≤ g.row.N * c.loop-i.i = mul-le-mul_left g.row.N (omega arith) in
    part_all g.I.Item.spelled c.loop-i.i c.args.items.now _ c.loop-i.part (omega arith) (omega arith) c.loop-i.invariant
