use Rattle.std.proofs.Common.{◌≡◌, length}
use Rattle.settings.specs.Tables.{InversesMade, RowsOfEight}
use Rattle.settings.proofs.Filled.{Column}
use Rattle.settings.proofs.candidates.Candidate.invert.Given as goal

abbrev pub invariant-loop-second : goal.invariant-loop-second
invariant-loop-second l =
    (length l.inverses ≡ 8) × RowsOfEight l.inverses
    × InversesMade l.self.factors.now l.inverses l.first × Column l.self.factors.now l.inverses l.first l.second
