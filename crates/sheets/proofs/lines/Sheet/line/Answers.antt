use Rattle.std.proofs.Common.{rules}
use Rattle.sheets.proofs.lines.Sheet.line.Goals as goal
use Rattle.sheets.proofs.lines.Sheet.line.Goals.{in-Passed, in-Note+in_ok-extend_from_slice-in-Note, in-Moduli+in_ok-check_bounds-in-Moduli, in-Bounds+in_ok-check_bounds-in-Bounds, in-Row+in_ok-check_row-in-Row+in_ok-extend_from_slice-in-Row}

pub returns : goal.returns
returns c =
    elim c.match-branch-2.branch [
      | in-Passed w ↦ rw w.self-is (search rules)
      | in-Note+in_ok-extend_from_slice-in-Note w ↦ rw w.self-is (search rules)
      | in-Moduli+in_ok-check_bounds-in-Moduli w ↦ rw w.self-is (search rules)
      | in-Bounds+in_ok-check_bounds-in-Bounds w ↦ rw w.self-is (search rules)
      | in-Row+in_ok-check_row-in-Row+in_ok-extend_from_slice-in-Row w ↦ rw w.self-is (search rules)
    ]
