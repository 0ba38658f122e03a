-- What is collected of a table, line after line. Assumes nothing.
use Rattle.std.specs.Prelude.{◌≡◌, ℕ, ◌+◌, ◌<◌, true, ◌⊎◌, List, ◌++◌, length, Ok, Err, vec_items, vec_len, vec_capacity, Result, ◌≢◌}
use Rattle.tables.specs.declared.errors.BadText.{BadText}
use Rattle.tables.specs.declared.errors.BadText.TheVariants.{NoMemory}
use Rattle.tables.specs.declared.headings.Heading.{Heading}
use Rattle.tables.specs.declared.parts.Part.{Part}
use Rattle.tables.specs.declared.parts.Part.TheVariants as part
use Rattle.tables.specs.Lines.{part_of}
use Rattle.tables.specs.Ready.{complete}
use Rattle.tables.specs.Tables.{line_in, seen_after}
use Rattle.tables.specs.Words.{words}
use Rattle.sheets.specs.declared.errors.BadSheet.{BadSheet}
use Rattle.sheets.specs.declared.errors.BadSheet.TheVariants.{NotTable, UnevenBounds, UnevenRow}
use Rattle.sheets.specs.declared.lines.Sheet.{Sheet}
use Rattle.sheets.specs.Notes.{note_text}

-- a sheet that saw these heading lines, with this note, these moduli, these bounds, and the numbers of all rows, row after row
pub record Holds (s : Sheet) (h : Heading) (note ms bs xs : List ℕ) : Type 0 where
  pub heading_is : s.heading ≡ h
  pub note_is : vec_items s.note ≡ note
  pub moduli_are : vec_items s.moduli ≡ ms
  pub bounds_are : vec_items s.bounds ≡ bs
  pub rows_are : vec_items s.rows ≡ xs

-- as many bounds as moduli, once there are both
abbrev pub Even : Heading → (ms bs : List ℕ) → Type 0
Even h ms bs = complete h ≡ true → length bs ≡ length ms

-- what a good line with these numbers adds to a sheet, after which the heading lines h were seen
abbrev pub Adds : Part → Heading → Sheet → (line ns : List ℕ) → Sheet → Type 0
Adds part.Passed h s line ns s' = Holds s' h (vec_items s.note) (vec_items s.moduli) (vec_items s.bounds) (vec_items s.rows)
Adds part.Note h s line ns s' = Holds s' h (note_text line) (vec_items s.moduli) (vec_items s.bounds) (vec_items s.rows)
Adds part.Moduli h s line ns s' = Holds s' h (vec_items s.note) ns (vec_items s.bounds) (vec_items s.rows) × Even h ns (vec_items s.bounds)
Adds part.Bounds h s line ns s' = Holds s' h (vec_items s.note) (vec_items s.moduli) ns (vec_items s.rows) × Even h (vec_items s.moduli) ns
Adds part.Row h s line ns s' = Holds s' h (vec_items s.note) (vec_items s.moduli) (vec_items s.bounds) (vec_items s.rows ++ ns) × (length ns ≡ length (vec_items s.moduli))

-- b bounds for m moduli, which differ, and no more heading lines are to come
pub record Uneven (h : Heading) (ms bs : List ℕ) (b m : ℕ) : Type 0 where
  pub both : complete h ≡ true
  pub count_b : b ≡ length bs
  pub count_m : m ≡ length ms
  pub differ : b ≡ m → ⊥

-- a heading line with these numbers makes b bounds for m moduli
abbrev pub UnevenHeading : Part → Heading → Sheet → (ns : List ℕ) → (b m : ℕ) → Type 0
UnevenHeading part.Passed h s ns b m = ⊥
UnevenHeading part.Note h s ns b m = ⊥
UnevenHeading part.Row h s ns b m = ⊥
UnevenHeading part.Moduli h s ns b m = Uneven h ns (vec_items s.bounds) b m
UnevenHeading part.Bounds h s ns b m = Uneven h (vec_items s.moduli) ns b m

-- one of the sheet's lists had no room for what a line adds
abbrev pub Full : Sheet → List ℕ → Type 0
Full s line = (vec_capacity s.numbers < length (words line)) ⊎ ((vec_capacity s.note < length (note_text line)) ⊎ ((ns : List ℕ) × (line_in s.heading line ≡ Ok ns) × (vec_capacity s.rows < vec_len s.rows + length ns)))

-- what a line comes to: the sheet with what the line adds, or what is wrong with it
abbrev pub Collects : Sheet → (line : List ℕ) → Result Sheet BadSheet → Type 0
Collects s line (Ok s') = (ns : List ℕ) × (line_in s.heading line ≡ Ok ns) × Adds (part_of line) (seen_after (part_of line) s.heading) s line ns s'
Collects s line (Err (NotTable e)) = (line_in s.heading line ≡ Err e) ⊎ ((e ≡ NoMemory) × Full s line)
Collects s line (Err (UnevenBounds b m)) = (ns : List ℕ) × (line_in s.heading line ≡ Ok ns) × UnevenHeading (part_of line) (seen_after (part_of line) s.heading) s ns b m
Collects s line (Err (UnevenRow n m)) = (ns : List ℕ) × (line_in s.heading line ≡ Ok ns) × (part_of line ≡ part.Row) × (n ≡ length ns) × (m ≡ length (vec_items s.moduli)) × (n ≢ m)

-- what is wrong with a table that ends after these lines, as a sheet tells it
abbrev pub end_of : Result (Unit {0}) BadText → Result (Unit {0}) BadSheet
end_of (Ok u) = Ok tt
end_of (Err e) = Err (NotTable e)
