use Rattle.settings.specs.Tables.{InversesMade, RowsOfEight}
use Rattle.settings.proofs.candidates.Candidate.inverses.Given as goal

abbrev pub invariant-loop-first : goal.invariant-loop-first
invariant-loop-first l = RowsOfEight l.inverses × InversesMade l.self.factors.now l.inverses l.first
