use Rattle.std.proofs.Common.{rules, tests, arith}
use Rattle.std.specs.Option.{option_copied, option_map}
use Rattle.std.proofs.lemmas.Iterator.{YieldsList-from_slice, YieldsList-from_take}
use Rattle.std.proofs.lemmas.Iterator.Consumers.{YieldsList-from_enumerate, YieldsList-from_filter, YieldsList-at}
use Rattle.records.specs.Bounds.{between}
use Rattle.records.proofs.Picking.{picks, last_from_yields_List}
use Rattle.records.proofs.narrowing.Narrowing.pick.Goals as goal

pub returns : goal.returns
returns g c =
    let s = c.args.self.now in
    picks g.O.Order.lesser s.items.now (option_copied s.low) (option_copied s.high) c.half.result (option_map (λ p. (p.0, p.1.now)) c.last.result) (omega (arith, c.half.ensures))
    (last_from_yields_List c.last.result c.last.ensures.ran
    (YieldsList-from_take c.half.result
    (YieldsList-at c.take.ensures.source
    (YieldsList-from_filter _ (λ p. between g.O.Order.lesser (option_copied s.low) (option_copied s.high) p.1)
    (YieldsList-at c.filter.ensures.source (YieldsList-from_enumerate (YieldsList-at c.enumerate.ensures.source (YieldsList-from_slice s.items.now (cc))) c.enumerate.ensures.count))
    c.filter.ensures.closure (λ x b q k. search (rules, tests))))
    c.take.ensures.count))
