use Rattle.std.proofs.Common.{◌≤◌, length, take, rules}
use Rattle.settings.proofs.Splits.{split_is, made_from}
use Rattle.settings.proofs.kept.Setting.from_moduli.Goals as goal

pub returns-clause-made : goal.returns-clause-made
returns-clause-made c =
    let ms = c.args.moduli.now in
    let u = c.common_divisor-unit.result in
    let parts = c.quotients-factors.result in
    let long : length ms ≤ length parts = search rules in
    made_from ms u (take (length ms) parts) c.new.result c.in_ok-check_count.ensures c.in_default.ensures
    (split_is ms u parts long c.common_divisor-unit.ensures c.quotients-factors.ensures) c.new.ensures.made
