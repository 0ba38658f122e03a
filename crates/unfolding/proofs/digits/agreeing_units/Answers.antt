use Rattle.std.proofs.Common.{◌*◌, ◌^◌, ◌<◌, pos, length, get_or, sym, ap, ◌∙◌, subst, mul-le-mul_left, arith, rules}
use borrow.Author.Differences.{ints}
use Rattle.std.proofs.lemmas.List.{length_push}
use Rattle.residues.specs.Circle.{◌modulo◌}
use Rattle.residues.proofs.Machine.{remainder_is}
use Rattle.settings.specs.Told.{factors_of, unit_of}
use Rattle.unfolding.proofs.Rows.{counts_from, counted_turn, counted_end}
use Rattle.unfolding.proofs.Agreed.{agreed_none, agreed_more, agreed_all, digit_agrees, factors_pos, room}
use Rattle.unfolding.proofs.digits.agreeing_units.Goals as goal

pub loop-k-init : goal.loop-k-init
loop-k-init c = record { rows = counts_from (cc) (cc) (cc); agreed = agreed_none _ _ _ c.new-digits.ensures }

pub rem_euclid-residue-requires-clause-nonzero : goal.rem_euclid-residue-requires-clause-nonzero
rem_euclid-residue-requires-clause-nonzero c =
    let t = counted_turn c.loop-k.invariant.rows c.loop-k.k-iterator c.next.new.self c.loop-k.yielded c.next.result c.loop-k.yielded_by c.next.ensures.steps c.in-Some.is in
    let fit = c.factors-factors.ensures.accepted.factors_fit _ t.in_first in
    omega (arith, ints, t.first_is 0, fit.0, fit.1)

pub overflow_cast-residue : goal.overflow_cast-residue
overflow_cast-residue c =
    let t = counted_turn c.loop-k.invariant.rows c.loop-k.k-iterator c.next.new.self c.loop-k.yielded c.next.result c.loop-k.yielded_by c.next.ensures.steps c.in-Some.is in
    let fit = c.factors-factors.ensures.accepted.factors_fit _ t.in_first in
    grind (arith, ints, t.first_is 0, fit.0, fit.1)

pub next_digit-digit-requires-clause-factor_fits : goal.next_digit-digit-requires-clause-factor_fits
next_digit-digit-requires-clause-factor_fits c =
    let t = counted_turn c.loop-k.invariant.rows c.loop-k.k-iterator c.next.new.self c.loop-k.yielded c.next.result c.loop-k.yielded_by c.next.ensures.steps c.in-Some.is in
    omega (arith, t.first_is 0, (c.factors-factors.ensures.accepted.factors_fit _ t.in_first).1)

pub next_digit-digit-requires-clause-paired : goal.next_digit-digit-requires-clause-paired
next_digit-digit-requires-clause-paired c =
    let t = counted_turn c.loop-k.invariant.rows c.loop-k.k-iterator c.next.new.self c.loop-k.yielded c.next.result c.loop-k.yielded_by c.next.ensures.steps c.in-Some.is in
    omega (arith, t.counts, t.in_first, ap length c.as_slice.ensures, c.loop-k.invariant.agreed.places, c.inverses.ensures.each (subst (λ i. i < length (factors_of c.args.setting.now)) (sym t.counts) t.in_first))

pub push-requires : goal.push-requires
push-requires c =
    let t = counted_turn c.loop-k.invariant.rows c.loop-k.k-iterator c.next.new.self c.loop-k.yielded c.next.result c.loop-k.yielded_by c.next.ensures.steps c.in-Some.is in
    (search rules, omega (arith, t.in_first, c.loop-k.invariant.agreed.places, c.factors-factors.ensures.accepted.counted.1))

pub overflow_mul-units : goal.overflow_mul-units
overflow_mul-units c =
    let t = counted_turn c.loop-k.invariant.rows c.loop-k.k-iterator c.next.new.self c.loop-k.yielded c.next.result c.loop-k.yielded_by c.next.ensures.steps c.in-Some.is in
    let within = room (unit_of c.args.setting.now) _ _ _ c.factors-factors.ensures.accepted t.in_first c.loop-k.invariant.agreed.weight_is in
    omega (arith, within, ap (λ z. c.loop-k.weight * z) (t.first_is 0), ap (λ z. c.loop-k.weight * z) c.from-in-loop-k.ensures, mul-le-mul_left c.loop-k.weight c.next_digit-digit.ensures.below)

pub overflow_add-units : goal.overflow_add-units
overflow_add-units c =
    let t = counted_turn c.loop-k.invariant.rows c.loop-k.k-iterator c.next.new.self c.loop-k.yielded c.next.result c.loop-k.yielded_by c.next.ensures.steps c.in-Some.is in
    let within = room (unit_of c.args.setting.now) _ _ _ c.factors-factors.ensures.accepted t.in_first c.loop-k.invariant.agreed.weight_is in
    omega (arith, within, c.loop-k.invariant.agreed.under, ap (λ z. c.loop-k.weight * z) (t.first_is 0), ap (λ z. c.loop-k.weight * z) c.from-in-loop-k.ensures, mul-le-mul_left c.loop-k.weight c.next_digit-digit.ensures.below)

pub overflow_mul-weight : goal.overflow_mul-weight
overflow_mul-weight c =
    let t = counted_turn c.loop-k.invariant.rows c.loop-k.k-iterator c.next.new.self c.loop-k.yielded c.next.result c.loop-k.yielded_by c.next.ensures.steps c.in-Some.is in
    let within = room (unit_of c.args.setting.now) _ _ _ c.factors-factors.ensures.accepted t.in_first c.loop-k.invariant.agreed.weight_is in
    omega (arith, within, ap (λ z. c.loop-k.weight * z) (c.from-weight.ensures ∙ t.first_is 0))

pub loop-k-preserved : goal.loop-k-preserved
loop-k-preserved c =
    let t = counted_turn c.loop-k.invariant.rows c.loop-k.k-iterator c.next.new.self c.loop-k.yielded c.next.result c.loop-k.yielded_by c.next.ensures.steps c.in-Some.is in
    let n = length c.loop-k.yielded in
    let gs = factors_of c.args.setting.now in
    let a = c.factors-factors.ensures.accepted in
    let p : 0 < get_or gs n 0 = factors_pos _ gs a n t.in_first in
    let is = c.inverses.result.now in
    let inverses = rw t.counts at c.inverses.ensures in
    let residue = rw (c.from.ensures, t.first_is 0) at c.rem_euclid-residue.ensures.value in
    let few : get_or gs n 0 < 2 ^ 63 = omega (arith, (a.factors_fit n t.in_first).1) in
    let more = agreed_more gs c.args.quotients.now n _ c.loop-k.units c.loop-k.weight c.next_digit-digit.result t.in_first c.loop-k.invariant.agreed _ _ _ _
    (length_push c.loop-k.yielded _) c.from-in-loop-k.ensures (c.from-weight.ensures ∙ t.first_is 0) c.push.ensures (omega (arith, c.next_digit-digit.ensures.below, t.first_is 0))
    (digit_agrees gs c.args.quotients.now n _ c.loop-k.units c.loop-k.weight c.next_digit-digit.result t.in_first c.loop-k.invariant.agreed is _ p
    (inverses.each t.in_first) (λ j i. (inverses.invert j i t.in_first).gives_one)
    (remainder_is (get_or gs n 0) _ c.rem_euclid-residue.result few (search rules) (search rules) residue ∙ ap (λ z. z modulo get_or gs n 0) (t.second_is (pos 0)))
    (rw (t.first_is 0, c.as_slice.ensures) at c.next_digit-digit.ensures.is)) in
    record { rows = c.loop-k.invariant.rows; agreed = more }

pub returns : goal.returns
returns c =
    let n = counted_end c.loop-k.invariant.rows c.loop-k.k-iterator c.next.new.self c.loop-k.yielded c.next.result c.loop-k.yielded_by c.next.ensures.steps c.in-None.is (sym c.requires) in
    agreed_all _ _ _ _ _ _ n (factors_pos _ _ c.factors-factors.ensures.accepted) c.loop-k.invariant.agreed
