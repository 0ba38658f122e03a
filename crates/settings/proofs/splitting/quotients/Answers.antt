use Rattle.std.proofs.Common.{◌≡◌, ◌/◌, ap, ◌∙◌, arith, rules}
use Rattle.settings.proofs.Mapped.{mapped}
use Rattle.settings.proofs.splitting.quotients.Goals as goal

pub returns : goal.returns
returns c k h =
    mapped _ _ (λ x y. y ≡ x / c.args.divisor) 0 0 (λ x y q called. search rules) 8 c.in_places.result c.map.result c.map.ensures.items.each k (omega arith)
    ∙ ap (λ n. n / c.args.divisor) (c.in_places.ensures.same k)
