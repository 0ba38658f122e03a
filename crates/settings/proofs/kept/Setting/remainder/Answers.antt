use Rattle.std.proofs.Common.{◌≡◌, ℕ, ◌^◌, ◌<◌, List, length, get_or, sym, ◌∙◌, subst, mod-lt, arith, rules}
use Rattle.settings.specs.declared.kept.Setting.{Setting}
use Rattle.settings.specs.Settings.{FromTo}
use Rattle.settings.specs.Told.{ModuliTold, factors_of}
use Rattle.settings.proofs.Only.{one_position}
use Rattle.settings.proofs.kept.Setting.remainder.Goals as goal

modulus_fits : (s : Setting) (ms : List ℕ) (k m : ℕ) → ModuliTold s ms → k < length (factors_of s) → m ≡ get_or ms k 0 → FromTo 1 (2 ^ 31) m
modulus_fits s ms k m told h e = subst (FromTo 1 (2 ^ 31)) (sym (e ∙ told.is k h)) (s.accepted.moduli_fit k h)

pub returns-then-position-self-clause-only : goal.returns-then-position-self-clause-only
returns-then-position-self-clause-only c = one_position _ _ c.args.self.now.accepted

pub returns-in_default-clause-only : goal.returns-in_default-clause-only
returns-in_default-clause-only c = one_position _ _ c.args.self.now.accepted

pub nonzero_rem-result : goal.nonzero_rem-result
nonzero_rem-result c =
    let is : c.from.result ≡ get_or c.moduli.result.now c.args.channel 0 = search rules in
    let within : c.args.channel < length (factors_of c.args.self.now) = search rules in
    omega (arith, modulus_fits c.args.self.now c.moduli.result.now c.args.channel _ c.moduli.ensures within is)

pub overflow_cast-result : goal.overflow_cast-result
overflow_cast-result c =
    let is : c.from.result ≡ get_or c.moduli.result.now c.args.channel 0 = search rules in
    let within : c.args.channel < length (factors_of c.args.self.now) = search rules in
    let fits = modulus_fits c.args.self.now c.moduli.result.now c.args.channel _ c.moduli.ensures within is in
    omega (arith, fits, mod-lt c.args.position (nonzero_rem-result c))

pub returns-clause-only : goal.returns-clause-only
returns-clause-only c = one_position _ _ c.args.self.now.accepted
