use Rattle.std.proofs.Common.{◌≡◌, ◌+◌, length, get_or, refl, ℤ, pos, ◌+ℤ◌, ◌-ℤ◌, sym, ap, inl, inr, arith, w64, to_z, of_z, rules}
use borrow.Author.Differences.{ints}
use Rattle.std.proofs.lemmas.Int.{to_z-of_z}
use Rattle.std.proofs.lemmas.List.{length_push}
use Rattle.unfolding.specs.Ends.{begins_at, ends_at}
use Rattle.unfolding.proofs.Rows.{counts_later_from, later_turn, later_end}
use Rattle.unfolding.proofs.Extremes.{greatest_one, greatest_kept, greatest_taken, least_one, least_kept, least_taken, less, not_less, end_small}
use Rattle.unfolding.proofs.ends.Ends.of.Goals as goal
use Rattle.unfolding.proofs.ends.Ends.of.Goals.{then-begins-lo, else-begins-lo}

pub loop-channel-init : goal.loop-channel-init
loop-channel-init c =
    let m = c.requires.moderate 0 (omega arith) in
    let b = c.type_inv.bounds 0 in
    record { rows = counts_later_from (cc) (cc) (cc) (cc); lo = greatest_one _ _ (omega (arith, ints, m, b)); hi = least_one _ _ (omega (arith, ints, m, b)) }

pub overflow_sub-begins : goal.overflow_sub-begins
overflow_sub-begins c =
    let t = later_turn c.loop-channel.invariant.rows c.loop-channel.channel-iterator c.next.new.self c.loop-channel.yielded c.next.result c.loop-channel.yielded_by c.next.ensures.steps c.in-Some.is in
    let n = length c.loop-channel.yielded + 1 in
    omega (arith, ints, t.first_is (pos 0), t.second_is 0, c.requires.moderate n t.in_first, c.type_inv.bounds n)

pub overflow_add-reaches : goal.overflow_add-reaches
overflow_add-reaches c =
    let t = later_turn c.loop-channel.invariant.rows c.loop-channel.channel-iterator c.next.new.self c.loop-channel.yielded c.next.result c.loop-channel.yielded_by c.next.ensures.steps c.in-Some.is in
    let n = length c.loop-channel.yielded + 1 in
    omega (arith, ints, t.first_is (pos 0), t.second_is 0, c.requires.moderate n t.in_first, c.type_inv.bounds n)

pub loop-channel-preserved-then-reaches-hi : goal.loop-channel-preserved-then-reaches-hi
loop-channel-preserved-then-reaches-hi c =
    let t = later_turn c.loop-channel.invariant.rows c.loop-channel.channel-iterator c.next.new.self c.loop-channel.yielded c.next.result c.loop-channel.yielded_by c.next.ensures.steps c.in-Some.is in
    let n = length c.loop-channel.yielded + 1 in
    let count = ap (λ k. k + 1) (length_push c.loop-channel.yielded (c.in-Some.channel, (c.in-Some.field-0-1-0, c.in-Some.field-0-1-1))) in
    let m = c.requires.moderate n t.in_first in
    let b = c.type_inv.bounds n in
    let lo = c.loop-channel.lo in
    let hi = c.loop-channel.hi in
    let inv = c.loop-channel.invariant in
    let f = begins_at c.args.unfolded.now c.args.bounds.now in
    let g = ends_at c.args.unfolded.now c.args.bounds.now in
    let y : ℤ = to_z w64 (of_z w64 (to_z w64 (of_z w64 c.in-Some.field-0-1-0.now) -ℤ to_z w64 (of_z w64 c.from.result))) in
    let z : ℤ = to_z w64 (of_z w64 (to_z w64 (of_z w64 c.in-Some.field-0-1-0.now) +ℤ to_z w64 (of_z w64 c.from-in-loop-channel.result))) in
    let y_is : y ≡ f n = omega (arith, ints, t.first_is (pos 0), t.second_is 0, m, b) in
    let z_is : z ≡ g n = omega (arith, ints, t.first_is (pos 0), t.second_is 0, m, b) in
    let lo_fits : to_z w64 (of_z w64 lo.at) ≡ lo.at = to_z-of_z w64 lo.at (search rules) in
    let hi_fits : to_z w64 (of_z w64 hi.at) ≡ hi.at = to_z-of_z w64 hi.at (search rules) in
    record {
      rows = inv.rows;
      lo = elim c.if-begins-lo.branch [
        | then-begins-lo w ↦ rw w.lo-is (greatest_taken n _ f lo.at y lo.channel count y_is c.in-Some.channel t.counts (less _ _ lo.at y lo_fits refl w.if-begins-lo.true) inv.lo)
        | else-begins-lo w ↦ rw w.lo-is (greatest_kept n _ f lo.at y lo.channel count y_is (not_less _ _ lo.at y lo_fits refl w.if-begins-lo.false) inv.lo)
      ];
      hi = least_taken n _ g hi.at z hi.channel count z_is c.in-Some.channel t.counts (less _ _ z hi.at refl hi_fits c.if-reaches-hi.true) inv.hi;
    }

pub loop-channel-preserved : goal.loop-channel-preserved
loop-channel-preserved c =
    let t = later_turn c.loop-channel.invariant.rows c.loop-channel.channel-iterator c.next.new.self c.loop-channel.yielded c.next.result c.loop-channel.yielded_by c.next.ensures.steps c.in-Some.is in
    let n = length c.loop-channel.yielded + 1 in
    let count = ap (λ k. k + 1) (length_push c.loop-channel.yielded (c.in-Some.channel, (c.in-Some.field-0-1-0, c.in-Some.field-0-1-1))) in
    let m = c.requires.moderate n t.in_first in
    let b = c.type_inv.bounds n in
    let lo = c.loop-channel.lo in
    let hi = c.loop-channel.hi in
    let inv = c.loop-channel.invariant in
    let f = begins_at c.args.unfolded.now c.args.bounds.now in
    let g = ends_at c.args.unfolded.now c.args.bounds.now in
    let y : ℤ = to_z w64 (of_z w64 (to_z w64 (of_z w64 c.in-Some.field-0-1-0.now) -ℤ to_z w64 (of_z w64 c.from.result))) in
    let z : ℤ = to_z w64 (of_z w64 (to_z w64 (of_z w64 c.in-Some.field-0-1-0.now) +ℤ to_z w64 (of_z w64 c.from-in-loop-channel.result))) in
    let y_is : y ≡ f n = omega (arith, ints, t.first_is (pos 0), t.second_is 0, m, b) in
    let z_is : z ≡ g n = omega (arith, ints, t.first_is (pos 0), t.second_is 0, m, b) in
    let lo_fits : to_z w64 (of_z w64 lo.at) ≡ lo.at = to_z-of_z w64 lo.at (search rules) in
    let hi_fits : to_z w64 (of_z w64 hi.at) ≡ hi.at = to_z-of_z w64 hi.at (search rules) in
    record {
      rows = inv.rows;
      lo = elim c.if-begins-lo.branch [
        | then-begins-lo w ↦ rw w.lo-is (greatest_taken n _ f lo.at y lo.channel count y_is c.in-Some.channel t.counts (less _ _ lo.at y lo_fits refl w.if-begins-lo.true) inv.lo)
        | else-begins-lo w ↦ rw w.lo-is (greatest_kept n _ f lo.at y lo.channel count y_is (not_less _ _ lo.at y lo_fits refl w.if-begins-lo.false) inv.lo)
      ];
      hi = least_kept n _ g hi.at z hi.channel count z_is (not_less _ _ z hi.at refl hi_fits c.if-reaches-hi.false) inv.hi;
    }

pub invariant_of-result : goal.invariant_of-result
invariant_of-result c =
    let n = later_end c.loop-channel.invariant.rows c.loop-channel.channel-iterator c.next.new.self c.loop-channel.yielded c.next.result c.loop-channel.yielded_by c.next.ensures.steps c.in-None.is (sym c.requires.paired) c.requires.some in
    let lo = c.loop-channel.invariant.lo in
    let hi = c.loop-channel.invariant.hi in
    let i = c.loop-channel.lo.channel in
    let j = c.loop-channel.hi.channel in
    record {
      lo_small = end_small (get_or c.args.unfolded.now i (pos 0)) _ (get_or c.args.bounds.now i 0) (c.requires.moderate i (omega (arith, n, lo.within))) (omega (arith, c.type_inv.bounds i)) (inl (sym lo.gives));
      hi_small = end_small (get_or c.args.unfolded.now j (pos 0)) _ (get_or c.args.bounds.now j 0) (c.requires.moderate j (omega (arith, n, hi.within))) (omega (arith, c.type_inv.bounds j)) (inr (sym hi.gives));
    }

pub returns-clause-lo : goal.returns-clause-lo
returns-clause-lo c =
    let n = later_end c.loop-channel.invariant.rows c.loop-channel.channel-iterator c.next.new.self c.loop-channel.yielded c.next.result c.loop-channel.yielded_by c.next.ensures.steps c.in-None.is (sym c.requires.paired) c.requires.some in
    rw n at c.loop-channel.invariant.lo

pub returns-clause-hi : goal.returns-clause-hi
returns-clause-hi c =
    let n = later_end c.loop-channel.invariant.rows c.loop-channel.channel-iterator c.next.new.self c.loop-channel.yielded c.next.result c.loop-channel.yielded_by c.next.ensures.steps c.in-None.is (sym c.requires.paired) c.requires.some in
    rw n at c.loop-channel.invariant.hi
