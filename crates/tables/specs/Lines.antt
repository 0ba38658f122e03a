-- What a line of a table is. Assumes nothing.
use Rattle.std.specs.Prelude.{ℕ, cond, List, [], ◌∷◌, codes, ◌==◌}
use Rattle.std.specs.Str.{bytes_eq}
use Rattle.tables.specs.declared.parts.Part.{Part}
use Rattle.tables.specs.declared.parts.Part.TheVariants.{Passed, Note, Moduli, Bounds, Row}
use Rattle.tables.specs.Words.{words}

abbrev pub part_of_word : List ℕ → Part
part_of_word w = cond (bytes_eq w (codes "note")) Note (cond (bytes_eq w (codes "moduli")) Moduli (cond (bytes_eq w (codes "bounds")) Bounds Row))

abbrev pub part_of_words : List (List ℕ) → Part
part_of_words [] = Passed
part_of_words (w ∷ ws) = part_of_word w

-- a line that begins with # is passed over
abbrev pub part_of : List ℕ → Part
part_of [] = Passed
part_of (b ∷ bs) = cond (b == 35) Passed (part_of_words (words (b ∷ bs)))
