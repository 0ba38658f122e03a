use Rattle.std.proofs.Common.{rules}
use Rattle.sheets.specs.Rows.{modulus_of}
use Rattle.sheets.proofs.rows.ModuliDisplay.fmt.Goals as goal

pub returns-clause-writes : goal.returns-clause-writes
returns-clause-writes g c = c.write_figures.ensures modulus_of (λ e n p. search rules)
