use Rattle.std.proofs.Common.{length, get_or, pos, ap, ◌∙◌, sym, subst, ◌^◌, neg_ℤ, ◌≤ℤ◌, arith, w64, rules}
use Rattle.std.proofs.lemmas.Int.{to_z-of_z}
use Rattle.std.proofs.lemmas.List.{length_push}
use Rattle.std.proofs.lemmas.List.FromFn.{length-map-range_with_len}
use Rattle.std.specs.Iterator.Adapters.{zip_first, zip_second}
use Rattle.std.specs.Slice.Iter.{iter_rest}
use Rattle.settings.specs.Told.{factors_of, unit_of}
use Rattle.unfolding.specs.Channels.{by_channel}
use Rattle.unfolding.specs.Digits.{Agreeing}
use Rattle.unfolding.specs.Folds.{quotient_at}
use Rattle.unfolding.proofs.Agreed.{factors_pos}
use Rattle.unfolding.proofs.Filled.{pushed}
use Rattle.unfolding.proofs.Known.{at_turn, at_end, turns_at, put_back, quotient_small, units_small, turns_fit, folded, turns_read, reading_read, product_read}
use Rattle.unfolding.proofs.folding.fold.Goals as goal

pub agreeing_units-units-requires : goal.agreeing_units-units-requires
agreeing_units-units-requires c = ap length (c.as_slice.ensures ∙ c.quotients-quotients.ensures) ∙ length-map-range_with_len _ 0 _ ∙ c.requires

pub loop-factor-init : goal.loop-factor-init
loop-factor-init c =
    let gs = factors_of c.args.setting.now in
    let rs = c.args.readings.now in
    let into = c.into_iter-factor-iterator.ensures.into_iter_gives in
    let circles = ap zip_first into ∙ c.zip-factor-items.ensures.first in
    let read = ap zip_second into ∙ c.zip-factor-items.ensures.second in
    let moduli = ap (λ z. iter_rest (zip_second z)) circles ∙ c.zip-circles.ensures.second.0 in
    let quotients = c.quotients-quotients.ensures ∙ ap (λ v. by_channel (length rs) (quotient_at v rs)) c.unit.ensures ∙ ap (λ n. by_channel n (quotient_at (unit_of c.args.setting.now) rs)) c.requires in
    record {
      known = record {
        accepted = c.factors.ensures.accepted;
        small = λ k. omega (arith, c.type_inv.readings k);
        units_agree = subst (λ qs. Agreeing gs qs c.agreeing_units-units.result) (c.as_slice.ensures ∙ quotients) c.agreeing_units-units.ensures;
        each = c.requires;
        factors_are = ap (λ z. iter_rest (zip_first z)) circles ∙ ap iter_rest c.zip-circles.ensures.first ∙ c.iter.ensures.rest ∙ c.factors.ensures.told;
        moduli_each = ap length moduli ∙ c.moduli.ensures.each;
        moduli_are = λ k h. ap (λ ms. get_or ms k 0) moduli ∙ c.moduli.ensures.is k h;
        quotients_are = ap (λ z. iter_rest (zip_first z)) read ∙ ap iter_rest c.zip-read.ensures.first ∙ c.iter-2.ensures.rest ∙ c.as_slice-2.ensures ∙ quotients;
        readings_are = ap (λ z. iter_rest (zip_second z)) read ∙ c.zip-read.ensures.second.0;
      };
      folds_are = c.new-folds.ensures;
      unfolded_are = c.new-unfolded.ensures;
    }

pub folds_of_channel-turns-requires : goal.folds_of_channel-turns-requires
folds_of_channel-turns-requires c =
    let u = unit_of c.args.setting.now in
    let gs = factors_of c.args.setting.now in
    let rs = c.args.readings.now in
    let inv = c.loop-factor.invariant in
    let y = c.agreeing_units-units.result in
    let h = at_turn u gs rs y _ inv.known c.loop-factor.factor-iterator c.next.new.self c.loop-factor.yielded c.next.result c.loop-factor.yielded_by c.next.ensures.steps c.in-Some.is in
    let q = to_z-of_z w64 _ (search rules) ∙ h.quotient_is in
    let fit = quotient_small u gs rs y _ inv.known (length c.loop-factor.yielded) in
    record {
      units_fit = units_small u gs rs y _ inv.known;
      quotient_low = subst (λ z. neg_ℤ (pos (2 ^ 40)) ≤ℤ z) (sym q) fit.0;
      quotient_high = subst (λ z. z ≤ℤ pos (2 ^ 40)) (sym q) fit.1;
      factor_positive = omega (arith, h.factor_is, factors_pos u gs inv.known.accepted _ h.in_row);
    }

pub unfolded_reading-requires : goal.unfolded_reading-requires
unfolded_reading-requires c =
    let u = unit_of c.args.setting.now in
    let gs = factors_of c.args.setting.now in
    let rs = c.args.readings.now in
    let inv = c.loop-factor.invariant in
    let y = c.agreeing_units-units.result in
    let h = at_turn u gs rs y _ inv.known c.loop-factor.factor-iterator c.next.new.self c.loop-factor.yielded c.next.result c.loop-factor.yielded_by c.next.ensures.steps c.in-Some.is in
    let turns = turns_read y _ _ _ _ _ (search rules) h.quotient_is h.factor_is c.folds_of_channel-turns.ensures in
    let fit = product_read _ _ c.folds_of_channel-turns.result _ (search rules) turns h.modulus_is (turns_fit u gs rs y _ inv.known _ h.in_row) in
    record { low = fit.0; high = fit.1 }

pub push-requires : goal.push-requires
push-requires c =
    let u = unit_of c.args.setting.now in
    let gs = factors_of c.args.setting.now in
    let rs = c.args.readings.now in
    let inv = c.loop-factor.invariant in
    let y = c.agreeing_units-units.result in
    let h = at_turn u gs rs y _ inv.known c.loop-factor.factor-iterator c.next.new.self c.loop-factor.yielded c.next.result c.loop-factor.yielded_by c.next.ensures.steps c.in-Some.is in
    (search rules, omega (arith, h.in_row, ap length inv.folds_are, length-map-range_with_len (turns_at u gs rs y) 0 (length c.loop-factor.yielded), inv.known.accepted.counted.1))

pub push-requires-in-loop-factor : goal.push-requires-in-loop-factor
push-requires-in-loop-factor c =
    let u = unit_of c.args.setting.now in
    let gs = factors_of c.args.setting.now in
    let rs = c.args.readings.now in
    let inv = c.loop-factor.invariant in
    let y = c.agreeing_units-units.result in
    let h = at_turn u gs rs y _ inv.known c.loop-factor.factor-iterator c.next.new.self c.loop-factor.yielded c.next.result c.loop-factor.yielded_by c.next.ensures.steps c.in-Some.is in
    (search rules, omega (arith, h.in_row, ap length inv.unfolded_are, length-map-range_with_len (put_back u gs rs y) 0 (length c.loop-factor.yielded), inv.known.accepted.counted.1))

pub loop-factor-preserved : goal.loop-factor-preserved
loop-factor-preserved c =
    let u = unit_of c.args.setting.now in
    let gs = factors_of c.args.setting.now in
    let rs = c.args.readings.now in
    let inv = c.loop-factor.invariant in
    let y = c.agreeing_units-units.result in
    let h = at_turn u gs rs y _ inv.known c.loop-factor.factor-iterator c.next.new.self c.loop-factor.yielded c.next.result c.loop-factor.yielded_by c.next.ensures.steps c.in-Some.is in
    let turns = turns_read y _ _ _ _ _ (search rules) h.quotient_is h.factor_is c.folds_of_channel-turns.ensures in
    let reading = reading_read _ _ _ _ c.folds_of_channel-turns.result _ _ (search rules) turns h.modulus_is h.reading_is c.unfolded_reading.ensures in
    rw (length_push c.loop-factor.yielded ((c.in-Some.field-0-0-0, c.in-Some.field-0-0-1), (c.in-Some.field-0-1-0, c.in-Some.field-0-1-1))) (record {
      known = inv.known;
      folds_are = pushed (turns_at u gs rs y) _ _ _ c.folds_of_channel-turns.result inv.folds_are (search rules) turns c.push.ensures;
      unfolded_are = pushed (put_back u gs rs y) _ _ _ c.unfolded_reading.result inv.unfolded_are (search rules) reading c.push-in-loop-factor.ensures;
    })

pub returns : goal.returns
returns c =
    let u = unit_of c.args.setting.now in
    let gs = factors_of c.args.setting.now in
    let rs = c.args.readings.now in
    let y = c.agreeing_units-units.result in
    let inv = c.loop-factor.invariant in
    let n = at_end u gs rs y _ inv.known c.loop-factor.factor-iterator c.next.new.self c.loop-factor.yielded c.next.result c.loop-factor.yielded_by c.next.ensures.steps c.in-None.is in
    folded u gs rs y _ inv.known _
    (c.quotients-quotients.ensures ∙ ap (λ v. by_channel (length rs) (quotient_at v rs)) c.unit.ensures ∙ ap (λ k. by_channel k (quotient_at u rs)) c.requires)
    (inv.folds_are ∙ ap (λ k. by_channel k (turns_at u gs rs y)) n)
    (inv.unfolded_are ∙ ap (λ k. by_channel k (put_back u gs rs y)) n)

pub invariant_of-result : goal.invariant_of-result
invariant_of-result c =
    let u = unit_of c.args.setting.now in
    let gs = factors_of c.args.setting.now in
    let rs = c.args.readings.now in
    let y = c.agreeing_units-units.result in
    let inv = c.loop-factor.invariant in
    let n = at_end u gs rs y _ inv.known c.loop-factor.factor-iterator c.next.new.self c.loop-factor.yielded c.next.result c.loop-factor.yielded_by c.next.ensures.steps c.in-None.is in
    let quotients = sym (ap length c.quotients-quotients.ensures ∙ length-map-range_with_len _ 0 _ ∙ c.requires) in
    record {
      folds_paired = ap length inv.folds_are ∙ length-map-range_with_len (turns_at u gs rs y) 0 _ ∙ n ∙ quotients;
      unfolded_paired = ap length inv.unfolded_are ∙ length-map-range_with_len (put_back u gs rs y) 0 _ ∙ n ∙ quotients;
    }
