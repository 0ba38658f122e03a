use Rattle.std.proofs.Common.{◌*◌, sym, ap, ◌∙◌, subst}
use Rattle.settings.specs.Settings.{Accepted}
use Rattle.settings.proofs.Placed.{below_placed, invert_placed}
use Rattle.settings.proofs.candidates.Candidate.setting.Goals as goal

pub invariant_of-result-clause-accepted : goal.invariant_of-result-clause-accepted
invariant_of-result-clause-accepted c =
    let s = c.args.self.now in
    subst (Accepted s.unit) (sym c.in_places.ensures.front) (
    record {
      counted = s.counted;
      unit_fits = s.unit_fits;
      factors_fit = s.factors_fit;
      moduli_fit = c.in_ok-moduli.ensures.made.fit;
      coprime = c.in_ok-inverses.ensures.coprime;
      range_fits = c.in_ok-range.ensures.fits;
    }
    )

pub invariant_of-result-clause-moduli_are : goal.invariant_of-result-clause-moduli_are
invariant_of-result-clause-moduli_are c k h = c.in_ok-moduli.ensures.made.are k h ∙ ap (λ x. c.args.self.now.unit * x) (sym (c.in_places.ensures.same k))

pub invariant_of-result-clause-inverses_below : goal.invariant_of-result-clause-inverses_below
invariant_of-result-clause-inverses_below c = below_placed c.args.self.now.factors.now c.in_places.result c.in_places.ensures.same _ c.in_ok-inverses.ensures.made

pub invariant_of-result-clause-inverses_invert : goal.invariant_of-result-clause-inverses_invert
invariant_of-result-clause-inverses_invert c = invert_placed c.args.self.now.factors.now c.in_places.result c.in_places.ensures.same _ c.in_ok-inverses.ensures.made
