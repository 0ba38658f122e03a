-- The words of a text: its runs of bytes other than the space. Assumes nothing.
use Rattle.std.specs.Prelude.{ℕ, Bool, cond, List, [], ◌∷◌, ◌==◌}

abbrev pub is_space : ℕ → Bool
is_space b = b == 32

-- ws with the byte b at the front of the first of them
abbrev pub lengthened : ℕ → List (List ℕ) → List (List ℕ)
lengthened b [] = (b ∷ []) ∷ []
lengthened b (w ∷ ws) = (b ∷ w) ∷ ws

-- the words of the byte b, no space, before the text bs, whose words are ws
abbrev pub opened : ℕ → List ℕ → List (List ℕ) → List (List ℕ)
opened b [] ws = (b ∷ []) ∷ ws
opened b (c ∷ cs) ws = cond (is_space c) ((b ∷ []) ∷ ws) (lengthened b ws)

abbrev pub words : List ℕ → List (List ℕ)
words [] = []
words (b ∷ bs) = cond (is_space b) (words bs) (opened b bs (words bs))
