use Rattle.std.proofs.Common.{sym, ◌∙◌, arith, true-eqb, false-eqb}
use Rattle.std.proofs.lemmas.Int.Digits.{digits_more}
use Rattle.tables.proofs.Numbers.{at_other, stray, capped_more, reads_back, ends_large, ends_number, empty_word}
use Rattle.tables.proofs.numerals.number.Goals as goal

pub returns-then-not-is_ascii_digit : goal.returns-then-not-is_ascii_digit
returns-then-not-is_ascii_digit c =
    let is = sym (at_other _ (stray _ c.loop-b.b-index c.loop-b-test.true (λ h. omega (arith, c.if-not-is_ascii_digit.ensures.cases)))) in
    record { value = is; reads_back = reads_back is }

pub loop-b-preserved : goal.loop-b-preserved
loop-b-preserved c = (
  digits_more 10 _ c.loop-b.b-index c.loop-b-test.true c.loop-b.invariant.0 c.if-not-is_ascii_digit.ensures.bound,
  c.min-n.ensures ∙ rw c.from.ensures (capped_more _ _ _ c.loop-b-test.true c.if-not-is_ascii_digit.ensures.cases c.loop-b.invariant.1),
)

pub returns-then-is_empty : goal.returns-then-is_empty
returns-then-is_empty c =
    let is = empty_word _ (true-eqb _ 0 c.if-is_empty.ensures) in
    record { value = is; reads_back = reads_back is }

pub returns-then-n-eq-LIMIT : goal.returns-then-n-eq-LIMIT
returns-then-n-eq-LIMIT c =
    let is = ends_large _ _ _ c.loop-b-test.false c.loop-b.invariant.0 c.loop-b.invariant.1 (false-eqb _ 0 c.if-is_empty.ensures) c.if-n-eq-LIMIT.true in
    record { value = is; reads_back = reads_back is }

pub returns-else-n-eq-LIMIT : goal.returns-else-n-eq-LIMIT
returns-else-n-eq-LIMIT c =
    let is = ends_number _ _ _ c.loop-b-test.false c.loop-b.invariant.0 c.loop-b.invariant.1 (false-eqb _ 0 c.if-is_empty.ensures) c.if-n-eq-LIMIT.false in
    record { value = is; reads_back = reads_back is }
