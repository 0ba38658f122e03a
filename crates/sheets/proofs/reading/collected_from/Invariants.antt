use Rattle.std.proofs.Common.{◌≡◌, ℕ, ◌+◌, ◌^◌, ◌≤◌, List, Some, Result}
use Rattle.std.specs.Io.Iter.{pieces_left_to_read, split_byte, split_known_bytes}
use Rattle.sheets.specs.declared.lines.Sheet.{Sheet}
use Rattle.sheets.specs.declared.whole.BadLine.{BadLine}
use Rattle.sheets.specs.Whole.{ComesTo, Reads, lines_of}
use Rattle.sheets.proofs.reading.collected_from.Given as goal

abbrev pub invariant-loop-text : goal.invariant-loop-text
invariant-loop-text g l = record {
  can_next : (goal.iterator-loop-text g).can_next l.text-iterator;
  finite : (goal.iterator-loop-text g).is_finite l.text-iterator;
  feeds : split_byte l.text-iterator ≡ 10;
  count : l.line + pieces_left_to_read l.text-iterator ≤ 2 ^ 64;
  whole : (text : List ℕ) → g.B.Read.remaining l.fn.input ≡ Some text → (rest : List ℕ) × (split_known_bytes g.B.Read.remaining l.text-iterator ≡ Some rest) × ((r : Result Sheet BadLine) → ComesTo l.sheet l.line (lines_of rest) r → Reads text r);
}
