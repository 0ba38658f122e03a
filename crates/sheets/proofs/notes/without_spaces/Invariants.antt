use Rattle.std.proofs.Common.{◌≡◌, length}
use Rattle.sheets.specs.Notes.{unspaced}
use Rattle.sheets.proofs.notes.without_spaces.Given as goal

abbrev pub invariant-loop-rest : goal.invariant-loop-rest
invariant-loop-rest l = unspaced l.rest ≡ unspaced l.line

abbrev pub decreases-loop-rest : goal.decreases-loop-rest
decreases-loop-rest l = length l.rest
