-- Why what a reader gives is not recorded. Assumes nothing.
use Rattle.std.specs.Prelude.{ℕ, List, Err}
use Rattle.sheets.specs.declared.reading.Unrecorded.{Unrecorded}
use Rattle.sheets.specs.declared.reading.Unrecorded.TheVariants.{Unread, Unmade}
use Rattle.sheets.specs.Whole.{Recorded}

-- what is said of a text of which all could be read; of a reader that failed nothing is
abbrev pub Misread : (text : List ℕ) → Unrecorded → Type 0
Misread text (Unread e) = Unit {0}
Misread text (Unmade e) = Recorded text (Err e)
