use Rattle.std.proofs.Common.{◌≡◌, ℕ, ◌^◌, ◌<◌, length, get_or, ℤ, pos, ◌+ℤ◌, ◌*ℤ◌, ap, ◌∙◌, add-one, arith, w64, SFits, rules}
use borrow.Author.Differences.{ints}
use Rattle.std.proofs.lemmas.Int.{to_z-of_z, to_z_pos}
use Rattle.unfolding.specs.Channels.{total}
use Rattle.unfolding.proofs.means.rounded.Goals as goal

pub overflow_add-sum : goal.overflow_add-sum
overflow_add-sum c = omega (arith, ints, c.requires.moderate c.loop-reading.reading-index c.loop-reading-test.true)

pub loop-reading-preserved : goal.loop-reading-preserved
loop-reading-preserved c =
    let k = c.loop-reading.reading-index in
    let m = c.requires.moderate k c.loop-reading-test.true in
    let more = ap (λ n. total n (λ i. get_or c.args.unfolded.now i (pos 0))) (add-one k) in
    record {
      sum_is = omega (arith, ints, m, more);
      low = omega (arith, ints, m);
      high = omega (arith, ints, m);
    }

pub overflow_mul-sum : goal.overflow_mul-sum
overflow_mul-sum c = omega (arith, ints)

pub overflow_add-sum-2 : goal.overflow_add-sum-2
overflow_add-sum-2 c = omega (arith, ints)

pub returns : goal.returns
returns c =
    let n = length c.args.unfolded.now in
    let f : ℕ → ℤ = λ i. get_or c.args.unfolded.now i (pos 0) in
    let e : c.loop-reading.reading-index ≡ n = omega arith in
    let sum_is = c.loop-reading.invariant.sum_is ∙ ap (λ k. total k f) e in
    let f₁ : SFits w64 (pos 2 *ℤ total n f) = omega (arith, ints) in
    let f₂ : SFits w64 (pos 2 *ℤ total n f +ℤ pos n) = omega (arith, ints) in
    let f₃ : SFits w64 (pos 2 *ℤ pos n) = omega (arith, ints) in
    let f₄ : SFits w64 c.floor.result = search rules in
    let few : n < 2 ^ 63 = omega arith in
    simp to_z-of_z (simp (sum_is, to_z-of_z, to_z_pos) at c.floor.ensures)
