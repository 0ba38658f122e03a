-- What the lines of a text come to, and its recording. Assumes nothing.
use Rattle.std.specs.Prelude.{◌≡◌, ℕ, ◌+◌, cond, ◌⊎◌, List, [], ◌∷◌, Ok, Err, vec_items, Result, ◌==◌}
use Rattle.tables.specs.declared.parts.Part.TheVariants.{Row}
use Rattle.tables.specs.Tables.{allowed, seen_in}
use Rattle.sheets.specs.declared.errors.BadSheet.{BadSheet}
use Rattle.sheets.specs.declared.lines.Sheet.{Sheet}
use Rattle.sheets.specs.declared.whole.BadLine.{BadLine}
use Rattle.sheets.specs.declared.whole.NotRecorded.{NotRecorded}
use Rattle.sheets.specs.declared.whole.NotRecorded.TheVariants.{Line, Unwritten}
use Rattle.sheets.specs.Lines.{Collects, Holds, end_of}
use Rattle.sheets.specs.Making.{Encodes, NotEncoded, entries_of_table}

-- lines with the byte b at the front of the first of them
abbrev pub begun : ℕ → List (List ℕ) → List (List ℕ)
begun b [] = (b ∷ []) ∷ []
begun b (line ∷ lines) = (b ∷ line) ∷ lines

-- the lines of a text, each up to a line feed; what is left after the last line feed is a line if it is not empty
abbrev pub lines_of : List ℕ → List (List ℕ)
lines_of [] = []
lines_of (b ∷ bs) = cond (b == 10) ([] ∷ lines_of bs) (begun b (lines_of bs))

-- what these lines, the first of which is line n of the text, come to after the lines that a sheet has collected: the sheet of all of them, or the first bad one; an end that is bad is the line after the last
abbrev pub ComesTo : Sheet → (n : ℕ) → (lines : List (List ℕ)) → Result Sheet BadLine → Type 0
ComesTo s n [] (Ok t) = (t ≡ s) × (end_of (allowed s.heading Row) ≡ Ok tt)
ComesTo s n [] (Err e) = (e.line ≡ n) × (end_of (allowed s.heading Row) ≡ Err e.bad)
ComesTo s n (line ∷ lines) r = ((t : Sheet) × Collects s line (Ok t) × ComesTo t (n + 1) lines r) ⊎ ((bad : BadSheet) × Collects s line (Err bad) × (r ≡ Err (record { line = n; bad = bad })))

-- what the lines of a text come to, counted from 1, after nothing
abbrev pub Reads : (text : List ℕ) → Result Sheet BadLine → Type 0
Reads text r = (s : Sheet) × Holds s (seen_in []) [] [] [] [] × ComesTo s 1 (lines_of text) r

-- the recording of what the lines of a text give; or the first bad line; or else why the writer makes none
abbrev pub Recorded : (text : List ℕ) → Result (List ℕ) NotRecorded → Type 0
Recorded text (Ok bytes) = (s : Sheet) × Reads text (Ok s) × Encodes (vec_items s.note) (vec_items s.rows) (entries_of_table s) bytes
Recorded text (Err (Line e)) = Reads text (Err e)
Recorded text (Err (Unwritten e)) = (s : Sheet) × Reads text (Ok s) × NotEncoded (vec_items s.note) (vec_items s.rows) (entries_of_table s) e
