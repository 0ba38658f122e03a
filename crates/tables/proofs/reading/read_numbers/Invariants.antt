use Rattle.std.proofs.Common.{◌≡◌, ◌+◌, ◌≤◌, length, drop, vec_items, vec_len, vec_capacity}
use Rattle.tables.proofs.Lines.{onto}
use Rattle.tables.specs.Numbers.{numbers_from}
use Rattle.tables.specs.Tables.{is_row}
use Rattle.tables.specs.Words.{words}
use Rattle.tables.proofs.reading.read_numbers.Given as goal

abbrev pub invariant-loop-i : goal.invariant-loop-i
invariant-loop-i l = record {
  can : (goal.iterator-loop-i).can_next l.i-iterator;
  finite : (goal.iterator-loop-i).is_finite l.i-iterator;
  read : onto (vec_items l.numbers) (numbers_from (is_row l.part) (l.before + length l.yielded) (drop (l.before + length l.yielded) (words l.text))) ≡ numbers_from (is_row l.part) l.before (drop l.before (words l.text));
  filled : vec_len l.numbers ≡ length l.yielded;
  room : vec_capacity l.initial.numbers ≤ vec_capacity l.numbers;
}
