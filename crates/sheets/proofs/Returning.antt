-- The heading lines that are printed are read back.
use Rattle.std.proofs.Common.{◌≡◌, ℕ, List, [], ◌∷◌, ◌++◌, Ok, codes, decimal, refl, ap, subst}
use Rattle.recordings.specs.declared.entries.ChannelEntry.{ChannelEntry}
use Rattle.tables.specs.declared.parts.Part.TheVariants.{Moduli, Bounds}
use Rattle.tables.specs.Lines.{part_of}
use Rattle.tables.specs.Spelling.{spaced}
use Rattle.tables.specs.Tables.{line_in}
use Rattle.tables.proofs.Back.{reads_back}
use Rattle.sheets.specs.Headings.{HeadingsBack, figures_in}
use Rattle.sheets.specs.Rows.{bound_of, figure_words, modulus_of}

figures_spaced : (f : ChannelEntry → ℕ) (es : List ChannelEntry) → spaced (figures_in f es) ≡ figure_words f es
figures_spaced f [] = refl
figures_spaced f (e ∷ es) = ap (λ z. (32 ∷ decimal (f e)) ++ z) (figures_spaced f es)

pub headings_back : HeadingsBack
headings_back = record {
  note_back = λ note. (refl, refl);
  moduli_back = λ h es small f. subst (λ z. (part_of (codes "moduli" ++ z) ≡ Moduli) × (line_in h (codes "moduli" ++ z) ≡ Ok (figures_in modulus_of es))) (figures_spaced modulus_of es) (reads_back.moduli h _ small f);
  bounds_back = λ h es small f. subst (λ z. (part_of (codes "bounds" ++ z) ≡ Bounds) × (line_in h (codes "bounds" ++ z) ≡ Ok (figures_in bound_of es))) (figures_spaced bound_of es) (reads_back.bounds h _ small f);
}
