-- What the lines of a table mean, one after another. Assumes nothing.
use Rattle.std.specs.Prelude.{◌≡◌, ℕ, Bool, true, false, cond, ◌||◌, ◌⊎◌, List, [], ◌∷◌, drop, Ok, Err, Result}
use Rattle.tables.specs.declared.errors.BadText.{BadText}
use Rattle.tables.specs.declared.errors.BadText.TheVariants.{NoModuli, NoBounds, SecondModuli, SecondBounds, SecondNote, LateNote}
use Rattle.tables.specs.declared.headings.Heading.{Heading}
use Rattle.tables.specs.declared.parts.Part.{Part}
use Rattle.tables.specs.declared.parts.Part.TheVariants.{Passed, Note, Moduli, Bounds, Row}
use Rattle.tables.specs.Lines.{part_of}
use Rattle.tables.specs.Numbers.{numbers_from, NoRoom}
use Rattle.tables.specs.Words.{words}

-- whether a line may stand after those that were seen
abbrev pub allowed : Heading → Part → Result (Unit {0}) BadText
allowed h Passed = Ok tt
allowed h Note = cond h.note (Err SecondNote) (cond (h.moduli || h.bounds) (Err LateNote) (Ok tt))
allowed h Moduli = cond h.moduli (Err SecondModuli) (Ok tt)
allowed h Bounds = cond h.bounds (Err SecondBounds) (Ok tt)
allowed h Row = cond h.moduli (cond h.bounds (Ok tt) (Err NoBounds)) (Err NoModuli)

abbrev pub seen_after : Part → Heading → Heading
seen_after Passed h = h
seen_after Note h = record { note = true; moduli = h.moduli; bounds = h.bounds }
seen_after Moduli h = record { note = h.note; moduli = true; bounds = h.bounds }
seen_after Bounds h = record { note = h.note; moduli = h.moduli; bounds = true }
seen_after Row h = h

-- the numbers of a line with these words: only in a row a dash is one
abbrev pub numbers_of : Part → List (List ℕ) → Result (List ℕ) BadText
numbers_of Passed ws = Ok []
numbers_of Note ws = Ok []
numbers_of Moduli ws = numbers_from false 1 (drop 1 ws)
numbers_of Bounds ws = numbers_from false 1 (drop 1 ws)
numbers_of Row ws = numbers_from true 0 ws

abbrev pub and_then : Result (Unit {0}) BadText → Result (List ℕ) BadText → Result (List ℕ) BadText
and_then (Ok u) r = r
and_then (Err e) r = Err e

-- the numbers of a line after those that were seen, or what is wrong with it: its place before its words
abbrev pub line_in : Heading → List ℕ → Result (List ℕ) BadText
line_in h line = and_then (allowed h (part_of line)) (numbers_of (part_of line) (words line))

-- what reading a line does: with bad text, or with no room for the numbers, nothing was seen and there are no numbers
abbrev pub Taken : Heading → List ℕ → ℕ → Result Part BadText → List ℕ → Heading → Type 0
Taken h line room (Ok p) ns h' = (p ≡ part_of line) × (line_in h line ≡ Ok ns) × (h' ≡ seen_after p h)
Taken h line room (Err e) ns h' = ((line_in h line ≡ Err e) ⊎ NoRoom room (words line) e) × (ns ≡ []) × (h' ≡ h)

abbrev pub is_note : Part → Bool
is_note Note = true
is_note Passed = false
is_note Moduli = false
is_note Bounds = false
is_note Row = false

abbrev pub is_moduli : Part → Bool
is_moduli Moduli = true
is_moduli Passed = false
is_moduli Note = false
is_moduli Bounds = false
is_moduli Row = false

abbrev pub is_bounds : Part → Bool
is_bounds Bounds = true
is_bounds Passed = false
is_bounds Note = false
is_bounds Moduli = false
is_bounds Row = false

abbrev pub is_row : Part → Bool
is_row Row = true
is_row Passed = false
is_row Note = false
is_row Moduli = false
is_row Bounds = false

-- whether one of the lines is such a part
abbrev pub any_line : (Part → Bool) → List (List ℕ) → Bool
any_line test [] = false
any_line test (line ∷ lines) = test (part_of line) || any_line test lines

-- what was seen in these lines
abbrev pub seen_in : List (List ℕ) → Heading
seen_in lines = record { note = any_line is_note lines; moduli = any_line is_moduli lines; bounds = any_line is_bounds lines }
