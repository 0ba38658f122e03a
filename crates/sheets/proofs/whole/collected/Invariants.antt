use Rattle.std.proofs.Common.{◌+◌, ◌≤◌, length, Result}
use Rattle.sheets.specs.declared.lines.Sheet.{Sheet}
use Rattle.sheets.specs.declared.whole.BadLine.{BadLine}
use Rattle.sheets.specs.Whole.{ComesTo, Reads, lines_of}
use Rattle.sheets.proofs.whole.collected.Given as goal

abbrev pub invariant-loop-rest : goal.invariant-loop-rest
invariant-loop-rest l = record {
  whole : (r : Result Sheet BadLine) → ComesTo l.sheet l.line (lines_of l.rest) r → Reads l.text r;
  count : l.line + length l.rest ≤ length l.text + 1;
}

abbrev pub decreases-loop-rest : goal.decreases-loop-rest
decreases-loop-rest l = length l.rest
