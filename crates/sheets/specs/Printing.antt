-- The text that bytes are printed as: a table, or a refusal's line. Assumes nothing.
use Rattle.std.specs.Prelude.{◌≡◌, ℕ, ◌<◌, Bool, true, not, ◌&&◌, ◌⊎◌, List, ◌++◌, length, Ok, Err, codes, IsUtf8, Result, ◌==◌, nat_le}
use Rattle.std.specs.List.{AllByRecursion}
use Rattle.recordings.specs.declared.recording.Recording.{Recording}
use Rattle.recordings.specs.declared.refusals.CheckRefusal.{CheckRefusal}
use Rattle.recordings.specs.Contents.{note_of, rows_of, entries_of}
use Rattle.recordings.specs.Refusals.{Checked, check_fault}
use Rattle.tables.specs.Answers.{refusal_line}
use Rattle.sheets.specs.Rows.{table_of}

-- no control byte
abbrev pub visible : ℕ → Bool
visible b = nat_le 32 b && not (b == 127)

abbrev pub Visible : ℕ → Type 0
Visible b = visible b ≡ true

-- a note that is one line of text
pub record IsText (note : List ℕ) : Type 0 where
  pub some : 0 < length note
  pub utf8 : IsUtf8 note
  pub all_visible : AllByRecursion Visible note

-- a table with its note before it, where that is a line of text
abbrev pub Noted : (note table text : List ℕ) → Type 0
Noted note table text = (IsText note × (text ≡ codes "note " ++ (note ++ (codes "\n" ++ table)))) ⊎ ((IsText note → ⊥) × (text ≡ table))

-- what is printed once the check has answered
abbrev pub PrintsAnswer : Result Recording CheckRefusal → List ℕ → Type 0
PrintsAnswer (Ok r) text = Noted (note_of r) (table_of (rows_of r) (entries_of r)) text
PrintsAnswer (Err e) text = text ≡ refusal_line (check_fault e) ++ codes "\n"

-- the text that bytes are printed as
abbrev pub Printed : (bytes text : List ℕ) → Type 0
Printed bytes text = (r : Result Recording CheckRefusal) × Checked bytes r × PrintsAnswer r text
