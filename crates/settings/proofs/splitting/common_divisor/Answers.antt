use Rattle.std.proofs.Common.{subst, rules}
use Rattle.std.proofs.lemmas.Fn.{fold_over, slice_gives, fronts}
use Rattle.residues.specs.Divisors.{Greatest}
use Rattle.settings.specs.Settings.{GreatestOf}
use Rattle.settings.proofs.Splits.{greatest_none, greatest_more}
use Rattle.settings.proofs.splitting.common_divisor.Goals as goal

pub returns : goal.returns
returns c =
    subst (λ xs. GreatestOf xs c.fold.result) c.iter.ensures.rest
    (fold_over fronts (λ y. y.now) _ GreatestOf _ (λ ys a x b f' h called. let is : Greatest a x.now b = search rules in (greatest_more ys x.now a b h is, search rules))
    _ _ _ _ (slice_gives c.iter.result) greatest_none c.fold.ensures.ran)
