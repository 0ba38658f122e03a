-- The heading lines that are printed are read back. Assumes nothing.
use Rattle.std.specs.Prelude.{◌≡◌, ℕ, false, List, ◌++◌, map, Ok, codes}
use Rattle.recordings.specs.declared.entries.ChannelEntry.{ChannelEntry}
use Rattle.tables.specs.declared.headings.Heading.{Heading}
use Rattle.tables.specs.declared.parts.Part.TheVariants.{Note, Moduli, Bounds}
use Rattle.tables.specs.Lines.{part_of}
use Rattle.tables.specs.Spelling.{Small}
use Rattle.tables.specs.Tables.{line_in}
use Rattle.sheets.specs.Notes.{note_text}
use Rattle.sheets.specs.Rows.{bound_of, figure_words, modulus_of}

-- a figure of each entry: its modulus or its bound
abbrev pub figures_in : (figure_of : ChannelEntry → ℕ) → List ChannelEntry → List ℕ
figures_in figure_of es = map figure_of es

-- the note line as the same note, the moduli and the bounds as the same numbers, which are below 2^32
pub record HeadingsBack : Type 0 where
  pub note_back : (note : List ℕ) → (part_of (codes "note " ++ note) ≡ Note) × (note_text (codes "note " ++ note) ≡ note)
  pub moduli_back : (h : Heading) (es : List ChannelEntry) → Small (figures_in modulus_of es) → h.moduli ≡ false → (part_of (codes "moduli" ++ figure_words modulus_of es) ≡ Moduli) × (line_in h (codes "moduli" ++ figure_words modulus_of es) ≡ Ok (figures_in modulus_of es))
  pub bounds_back : (h : Heading) (es : List ChannelEntry) → Small (figures_in bound_of es) → h.bounds ≡ false → (part_of (codes "bounds" ++ figure_words bound_of es) ≡ Bounds) × (line_in h (codes "bounds" ++ figure_words bound_of es) ≡ Ok (figures_in bound_of es))
