-- What is still to come of a text that is read word by word. Assumes nothing.
use Rattle.std.specs.Prelude.{ℕ, List}
use Rattle.tables.specs.declared.splitting.Words.{Words}
use Rattle.tables.specs.Words.{words}

abbrev pub text_left : Words → List ℕ
text_left w = w.rest.now

abbrev pub words_left : Words → List (List ℕ)
words_left w = words (text_left w)
