-- The text of a note line. Assumes nothing.
use Rattle.std.specs.Prelude.{ℕ, cond, List, [], ◌∷◌, drop}
use Rattle.tables.specs.Words.{is_space}

-- a line without the spaces in front of it
abbrev pub unspaced : List ℕ → List ℕ
unspaced [] = []
unspaced (b ∷ bs) = cond (is_space b) (unspaced bs) (b ∷ bs)

-- what follows the word note and one space, to the end of the line
abbrev pub note_text : List ℕ → List ℕ
note_text line = drop 5 (unspaced line)
