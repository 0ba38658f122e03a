-- The first word of a text, by the places of its first byte that is no space and of the space after it. Assumes nothing.
use Rattle.std.proofs.Common.{◌≡◌, ℕ, zero, suc, ◌<◌, ◌≤◌, Bool, true, false, not, nat_lt, cond, List, [], ◌∷◌, Some, None, length, get_or, take, drop, position, refl, ap, ◌∙◌, add-zero, arith, length-drop, get_or-drop}
use Rattle.std.proofs.lemmas.Bool.{not-false, not-true}
use Rattle.std.proofs.lemmas.Bool.Decides.{nat_tests}
use Rattle.std.proofs.lemmas.List.{drop_all}
use Rattle.std.proofs.lemmas.List.Quantifiers.{position-Some}
use Rattle.std.proofs.lemmas.List.Sums.{prefix_len-le-length, fails_before_first, passes_at_first}
use Rattle.std.specs.List.{position_or_len}
use Rattle.std.specs.Option.{unwrap_or}
use Rattle.tables.specs.Words.{is_space, words}

pub past_spaces : (n : ℕ) (bs : List ℕ) → n ≤ length bs → ((k : ℕ) → k < n → is_space (get_or bs k 0) ≡ true) → words bs ≡ words (drop n bs)
past_spaces zero bs l h = refl
past_spaces (suc n) [] l h = absurd (omega arith)
past_spaces (suc n) (b ∷ bs) l h = rw (h 0 (omega arith)) (past_spaces n bs (omega arith) (λ k lt. h (suc k) (omega arith)))

-- a text that begins with at least one byte that is no space: the run of such bytes is its first word
pub first_run : (n : ℕ) (bs : List ℕ) → suc n ≤ length bs → ((k : ℕ) → k < suc n → is_space (get_or bs k 0) ≡ false) → (suc n < length bs → is_space (get_or bs (suc n) 0) ≡ true) → words bs ≡ take (suc n) bs ∷ words (drop (suc n) bs)
first_run n [] l h s = absurd (omega arith)
first_run zero (b ∷ []) l h s = rw (h 0 (omega arith)) refl
first_run zero (b ∷ c ∷ cs) l h s = rw (h 0 (omega arith), s (omega arith)) refl
first_run (suc n) (b ∷ []) l h s = absurd (omega arith)
first_run (suc n) (b ∷ c ∷ cs) l h s =
    let more = first_run n (c ∷ cs) (omega arith) (λ k lt. h (suc k) (omega arith)) (λ lt. s (omega arith)) in
    let here = h 0 (omega arith) in
    let next = h 1 (omega arith) in
    simp here (rw more (rw next refl))

abbrev pub visible : ℕ → Bool
visible b = not (is_space b)

none_past : (n m : ℕ) → cond (nat_lt n m) (Some n) None ≡ None → m ≤ n
none_past n m e = grind (arith, nat_tests)

end_is : (n m : ℕ) → n ≤ m → unwrap_or (cond (nat_lt n m) (Some n) None) m ≡ n
end_is n m le = grind (arith, nat_tests)

-- where the first space is, or the end
pub first_space : (bs : List ℕ) → unwrap_or (position is_space bs) (length bs) ≡ position_or_len is_space bs
first_space bs = end_is _ _ (prefix_len-le-length (λ b. not (is_space b)) bs)

pub no_word : (bs : List ℕ) → position visible bs ≡ None → words bs ≡ []
no_word bs e =
    let none : length bs ≤ position_or_len visible bs = none_past _ _ e in
    past_spaces (length bs) bs (omega arith) (λ k lt. not-false _ (fails_before_first visible bs k 0 (omega arith))) ∙ ap words (drop_all (length bs) bs (omega arith))

pub one_word : (bs : List ℕ) (i n : ℕ) → position visible bs ≡ Some i → n ≡ position_or_len is_space (drop i bs) → (words bs ≡ take n (drop i bs) ∷ words (drop n (drop i bs))) × (length (drop n (drop i bs)) < length bs)
one_word bs i n e is =
    let at = position-Some visible bs i 0 e in
    let begins : is_space (get_or (drop i bs) 0 0) ≡ false = ap is_space (get_or-drop i bs 0 0 ∙ ap (λ j. get_or bs j 0) (add-zero i)) ∙ not-true _ at.1 in
    let within : n ≤ length (drop i bs) = omega (arith, is, prefix_len-le-length (λ b. not (is_space b)) (drop i bs)) in
    let word = first (drop i bs) n is begins within (omega (arith, at.0, length-drop i bs)) in
    (past_spaces i bs (omega (arith, at.0)) (λ k lt. not-false _ (at.2 k lt)) ∙ word.0, omega (arith, word.1, length-drop i bs))
  where
    first : (rest : List ℕ) (k : ℕ) → k ≡ position_or_len is_space rest → is_space (get_or rest 0 0) ≡ false → k ≤ length rest → 0 < length rest → (words rest ≡ take k rest ∷ words (drop k rest)) × (length (drop k rest) < length rest)
    first rest zero is begins within some =
        let ends : is_space (get_or rest 0 0) ≡ true = ap (λ j. is_space (get_or rest j 0)) is ∙ passes_at_first is_space rest 0 (omega arith) in
        cc
    first rest (suc k) is begins within some = (
      first_run k rest within (λ j lt. fails_before_first is_space rest j 0 (omega arith)) (λ lt. ap (λ j. is_space (get_or rest j 0)) is ∙ passes_at_first is_space rest 0 (omega arith)),
      omega (arith, length-drop (suc k) rest),
    )
