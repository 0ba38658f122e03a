use Rattle.sheets.proofs.errors.BadSheetDisplay.fmt.Goals as goal

pub returns-in-UnevenBounds-clause-writes : goal.returns-in-UnevenBounds-clause-writes
returns-in-UnevenBounds-clause-writes g c = rw c.in-UnevenBounds.is c.write-in-UnevenBounds.ensures.writes
