-- What is said of bad text. Assumes nothing.
use Rattle.std.specs.Prelude.{ℕ, List, ◌++◌, codes, decimal}
use Rattle.tables.specs.Messages.{message_of}
use Rattle.sheets.specs.declared.errors.BadSheet.{BadSheet}
use Rattle.sheets.specs.declared.errors.BadSheet.TheVariants.{NotTable, UnevenBounds, UnevenRow}

abbrev pub sheet_message : BadSheet → List ℕ
sheet_message (NotTable e) = message_of e
sheet_message (UnevenBounds b m) = decimal b ++ (codes " bounds for " ++ (decimal m ++ codes " moduli"))
sheet_message (UnevenRow n m) = codes "a row of " ++ (decimal n ++ (codes " for " ++ (decimal m ++ codes " moduli")))
