use Rattle.std.proofs.Common.{rules, tests}
use Rattle.std.proofs.lemmas.Iterator.{YieldsList-from_slice}
use Rattle.std.proofs.lemmas.Iterator.Search.{position_from_yields_List}
use Rattle.records.specs.Middles.{is_central}
use Rattle.records.proofs.Firsts.{finds_middle}
use Rattle.records.proofs.middles.middle_of_few.Goals as goal

pub returns : goal.returns
returns g c =
    finds_middle g.O.Order.lesser g.met.O.Order.laws c.args.items.now c.position.result
    (position_from_yields_List (is_central g.O.Order.lesser c.args.items.now) _ _ _ c.position.ensures.ran (YieldsList-from_slice c.args.items.now (cc)) (λ x b q k. search (rules, tests)))
