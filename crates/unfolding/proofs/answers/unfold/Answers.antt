use Rattle.std.proofs.Common.{◌≡◌, ℕ, ℤ, ◌<ℤ◌, ◌≤ℤ◌, refl, ap, ◌∙◌, to_z, of_z, arith, w64, rules}
use Rattle.std.proofs.lemmas.Int.{to_z-of_z}
use Rattle.std.proofs.lemmas.Result.{err_from_is_err_and}
use Rattle.residues.specs.Circle.{◌modulo◌}
use Rattle.unfolding.specs.Channels.{position_of}
use Rattle.unfolding.specs.declared.refusals.UnfoldRefusal.TheVariants.{Contradictory}
use Rattle.unfolding.proofs.Extremes.{less, not_less}
use Rattle.unfolding.proofs.Assembly.{counted, paired, moderate, contradicted, unfolds}
use Rattle.unfolding.proofs.Robustness.{robust_remainders}
use Rattle.unfolding.proofs.Returning.{found, is_found, not_refused}
use Rattle.unfolding.proofs.answers.unfold.Goals as goal

-- a number brought into the range, told by what the code has for both
reduced_read : {r R R' : ℕ} {z z' : ℤ} → r ≡ position_of R z → R ≡ R' → z ≡ z' → r ≡ z' modulo R'
reduced_read {r} {R} {R'} {z} {z'} e f g = e ∙ ap (λ n. z modulo n) f ∙ ap (λ x. x modulo R') g

pub of-ends-requires : goal.of-ends-requires
of-ends-requires c =
    let a = c.check.ensures.accepted in
    let fine = c.in_ok-check.ensures.checked in
    let d = c.fold-folding.ensures in
    let cs = c.as_slice-unfolded.result.now in
    let cut = c.as_slice-unfolded.ensures in
    record {
      some = omega (arith, counted _ _ _ _ a fine _ d cs cut, a.counted.0);
      paired = paired _ _ _ _ a fine _ d cs cut;
      moderate = moderate _ _ _ _ a fine _ d cs cut;
    }

pub rounded-requires : goal.rounded-requires
rounded-requires c =
    let a = c.check.ensures.accepted in
    let fine = c.in_ok-check.ensures.checked in
    let d = c.fold-folding.ensures in
    let cs = c.as_slice-unfolded.result.now in
    let cut = c.as_slice-unfolded.ensures in
    record {
      some = omega (arith, counted _ _ _ _ a fine _ d cs cut, a.counted.0);
      few = omega (arith, counted _ _ _ _ a fine _ d cs cut, a.counted.1);
      moderate = moderate _ _ _ _ a fine _ d cs cut;
    }

pub returns-then-ends : goal.returns-then-ends
returns-then-ends c =
    let lo = c.of-ends.result.lo in
    let hi = c.of-ends.result.hi in
    let crossed : hi.at <ℤ lo.at = less _ _ hi.at lo.at (to_z-of_z w64 hi.at (search rules)) (to_z-of_z w64 lo.at (search rules)) c.if-ends.true in
    let refused = contradicted _ _ _ _ c.check.ensures.accepted c.in_ok-check.ensures.checked _ c.fold-folding.ensures c.as_slice-unfolded.result.now c.as_slice-unfolded.ensures
    lo.at hi.at crossed (Contradictory lo.channel c.excess.result hi.channel) (c.of-ends.ensures.lo, c.of-ends.ensures.hi, c.excess.ensures) in
    record {
      answers = refused;
      robust = robust_remainders;
      finds = tt;
      found = not_refused _ _ _ _ c.check.ensures.accepted _ refused;
    }

pub returns : goal.returns
returns c =
    let lo = c.of-ends.result.lo in
    let hi = c.of-ends.result.hi in
    let range = c.range-range.ensures in
    let lo_back : to_z w64 (of_z w64 lo.at) ≡ lo.at = to_z-of_z w64 lo.at (search rules) in
    let hi_back : to_z w64 (of_z w64 hi.at) ≡ hi.at = to_z-of_z w64 hi.at (search rules) in
    let order : lo.at ≤ℤ hi.at = not_less _ _ hi.at lo.at hi_back lo_back c.if-ends.false in
    let told = unfolds _ _ _ _ c.check.ensures.accepted c.in_ok-check.ensures.checked _ c.fold-folding.ensures c.as_slice-unfolded.result.now c.as_slice-unfolded.ensures _ refl
    (lo.channel, rw lo_back c.of-ends.ensures.lo) (hi.channel, rw hi_back c.of-ends.ensures.hi) (rw (lo_back, hi_back) order)
    (reduced_read c.reduced.ensures range refl) (rw (lo_back, hi_back) c.count.ensures)
    (reduced_read c.reduced-mean.ensures range (to_z-of_z w64 c.rounded.result (search rules) ∙ c.rounded.ensures)) in
    record {
      answers = told;
      robust = robust_remainders;
      finds = found _ _ _ _ c.check.ensures.accepted _ told;
      found = is_found _ _ _ _ c.check.ensures.accepted _ told;
    }

pub returns-in_err-check : goal.returns-in_err-check
returns-in_err-check c =
    let p = err_from_is_err_and c.from_residual.result c.from_residual.ensures.1 in
    let refused = c.in_err-check.ensures.checked in
    rw (p.1, p.2) (record {
      answers = refused;
      robust = robust_remainders;
      finds = tt;
      found = not_refused _ _ _ _ c.check.ensures.accepted _ refused;
    })
