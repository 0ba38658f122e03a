use Rattle.std.proofs.Common.{◌≡◌, ℕ, Some, None, Option, MatchOption, sym, subst, rules}
use Rattle.std.proofs.lemmas.Nat.Gcd.{IsGcd-from_zero}
use Rattle.residues.specs.declared.divisors.Shared.{Shared}
use Rattle.residues.specs.Divisors.{Greatest}
use Rattle.residues.specs.Euclid.{Runs}
use Rattle.residues.proofs.divisors.gcd.Goals as goal

-- every number divides 0
tells : (a b r : ℕ) (s : Option Shared) → Runs a b s → MatchOption s (r ≡ a) (λ t. r ≡ t.divisor) → Greatest a b r
tells a b r None e i = let d = IsGcd-from_zero a b e in subst (Greatest a b) (sym i) (record { left = d.0; right = d.1; greatest = d.2 })
tells a b r (Some t) e i = subst (Greatest a b) (sym i) e.greatest

pub returns : goal.returns
returns c = tells _ _ _ _ c.euclid.ensures (search rules)
