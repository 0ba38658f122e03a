use Rattle.std.proofs.Common.{ℕ, ◌%◌, ap, ◌∙◌, mod-eq_of_lt}
use Rattle.settings.proofs.inverses.inverse_of.Goals as goal

-- 1 modulo a number above 1 is 1
pub returns-in-Some : goal.returns-in-Some
returns-in-Some c =
    let tells = c.in-Some.ensures in
    record { below = tells.below; gives_one = tells.cofactor ∙ ap (λ (d : ℕ). d % c.args.second) c.if-shared-eq1.true ∙ mod-eq_of_lt c.requires }
