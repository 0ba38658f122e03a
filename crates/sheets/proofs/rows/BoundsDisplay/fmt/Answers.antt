use Rattle.std.proofs.Common.{rules}
use Rattle.sheets.specs.Rows.{bound_of}
use Rattle.sheets.proofs.rows.BoundsDisplay.fmt.Goals as goal

pub returns-clause-writes : goal.returns-clause-writes
returns-clause-writes g c = c.write_figures.ensures bound_of (λ e n p. search rules)
