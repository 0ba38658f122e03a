-- The laws of words. Assumes nothing.
use Rattle.std.proofs.Common.{◌≡◌, ℕ, ◌<◌, Bool, true, false, cond, List, [], ◌∷◌, ◌++◌, length, refl, ap, ◌∙◌, arith}
use Rattle.std.specs.List.{AllByRecursion}
use Rattle.tables.specs.Spelling.{WordsLaw}
use Rattle.tables.specs.Words.{is_space, lengthened, opened, words}

lengthened_append : (b : ℕ) (ws vs : List (List ℕ)) → 0 < length ws → lengthened b (ws ++ vs) ≡ lengthened b ws ++ vs
lengthened_append b [] vs some = absurd (omega arith)
lengthened_append b (w ∷ ws) vs some = refl

some_lengthened : (b : ℕ) (ws : List (List ℕ)) → 0 < length (lengthened b ws)
some_lengthened b [] = omega arith
some_lengthened b (w ∷ ws) = omega arith

some_opened : (b : ℕ) (bs : List ℕ) (ws : List (List ℕ)) → 0 < length (opened b bs ws)
some_opened b [] ws = omega arith
some_opened b (c ∷ cs) ws = by (is_space c)
  where
    by : (t : Bool) → 0 < length (cond t ((b ∷ []) ∷ ws) (lengthened b ws))
    by true = omega arith
    by false = some_lengthened b ws

some_words : (b : ℕ) (bs : List ℕ) → is_space b ≡ false → 0 < length (words (b ∷ bs))
some_words b bs e = rw e (some_opened b bs (words bs))

module _ (b c : ℕ) (xs ys : List ℕ) (more : words (c ∷ xs ++ 32 ∷ ys) ≡ words (c ∷ xs) ++ words ys) where
  opens : (t : Bool) → is_space c ≡ t → cond t ((b ∷ []) ∷ words (c ∷ xs ++ 32 ∷ ys)) (lengthened b (words (c ∷ xs ++ 32 ∷ ys))) ≡ cond t ((b ∷ []) ∷ words (c ∷ xs)) (lengthened b (words (c ∷ xs))) ++ words ys
  opens true e = ap (λ l. (b ∷ []) ∷ l) more
  opens false e = ap (lengthened b) more ∙ lengthened_append b (words (c ∷ xs)) (words ys) (some_words c xs e)

  goes_on : (t : Bool) → cond t (words (c ∷ xs ++ 32 ∷ ys)) (opened b (c ∷ xs ++ 32 ∷ ys) (words (c ∷ xs ++ 32 ∷ ys))) ≡ cond t (words (c ∷ xs)) (opened b (c ∷ xs) (words (c ∷ xs))) ++ words ys
  goes_on true = more
  goes_on false = opens (is_space c) refl

words_parts : (xs ys : List ℕ) → words (xs ++ 32 ∷ ys) ≡ words xs ++ words ys
words_parts [] ys = refl
words_parts (b ∷ []) ys = by (is_space b)
  where
    by : (t : Bool) → cond t (words ys) ((b ∷ []) ∷ words ys) ≡ cond t [] ((b ∷ []) ∷ []) ++ words ys
    by true = refl
    by false = refl
words_parts (b ∷ c ∷ xs) ys = goes_on b c xs ys (words_parts (c ∷ xs) ys) (is_space b)

words_single : (w : List ℕ) → 0 < length w → AllByRecursion (λ b. is_space b ≡ false) w → words w ≡ w ∷ []
words_single [] some solid = absurd (omega arith)
words_single (b ∷ []) some solid = rw solid.0 refl
words_single (b ∷ c ∷ w) some solid =
    let more = words_single (c ∷ w) (omega arith) solid.1 in
    let here = solid.0 in
    let next = solid.1.0 in
    simp here (rw more (rw next refl))

pub words_law : WordsLaw
words_law = record { parts = words_parts; single = words_single }
