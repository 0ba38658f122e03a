use Rattle.std.proofs.Common.{pos, ◌+ℤ◌, ◌-ℤ◌, ◌*ℤ◌, arith, w64, SFits, rules}
use borrow.Author.Differences.{ints}
use Rattle.std.proofs.lemmas.Int.{to_z-of_z}
use Rattle.unfolding.proofs.quotients.quotient.Goals as goal

pub returns : goal.returns
returns c =
    let f₁ : SFits w64 (pos c.args.reading) = omega (arith, ints) in
    let f₂ : SFits w64 (pos c.args.first) = omega (arith, ints) in
    let f₃ : SFits w64 (pos c.args.unit) = omega (arith, ints) in
    let f₄ : SFits w64 (pos c.args.reading -ℤ pos c.args.first) = omega (arith, ints) in
    let f₅ : SFits w64 (pos 2 *ℤ (pos c.args.reading -ℤ pos c.args.first)) = omega (arith, ints) in
    let f₆ : SFits w64 (pos 2 *ℤ (pos c.args.reading -ℤ pos c.args.first) +ℤ pos c.args.unit) = omega (arith, ints) in
    let f₇ : SFits w64 (pos 2 *ℤ pos c.args.unit) = omega (arith, ints) in
    let f₈ : SFits w64 c.floor.result = search rules in
    simp to_z-of_z (simp (to_z-of_z, c.from.ensures, c.from-2.ensures, c.from-unit.ensures) at c.floor.ensures)
