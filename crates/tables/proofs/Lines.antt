-- The numbers of a line, one after another. Assumes nothing.
use Rattle.std.proofs.Common.{◌≡◌, ℕ, suc, ◌+◌, ◌<◌, ◌≤◌, Bool, List, [], ◌∷◌, ◌++◌, length, drop, get_or, Ok, Err, Result, sym, refl, ap, ◌∙◌, append_assoc, append-nil, zero-add, add-one, arith, length-drop, get_or-drop, drop-cons}
use Rattle.std.proofs.lemmas.List.FromFn.{get_or-enumerate_from, length-enumerate_from}
use Rattle.std.proofs.lemmas.List.{drop_all}
use Rattle.std.specs.List.{enumerate_from}
use Rattle.tables.specs.declared.errors.BadText.{BadText}
use Rattle.tables.specs.Numbers.{ahead, number_at, numbers_from}

-- numbers that are read before what is still to read
abbrev pub onto : List ℕ → Result (List ℕ) BadText → Result (List ℕ) BadText
onto xs (Ok ns) = Ok (xs ++ ns)
onto xs (Err e) = Err e

onto_none : (r : Result (List ℕ) BadText) → onto [] r ≡ r
onto_none (Ok ns) = refl
onto_none (Err e) = refl

pub none_yet : (xs : List ℕ) (r : Result (List ℕ) BadText) → xs ≡ [] → onto xs r ≡ r
none_yet xs r e = ap (λ l. onto l r) e ∙ onto_none r

pub onto_more : (xs : List ℕ) (n : ℕ) (r : Result (List ℕ) BadText) → onto (xs ++ n ∷ []) r ≡ onto xs (ahead (Ok n) r)
onto_more xs n (Ok ns) = ap Ok (append_assoc xs (n ∷ []) ns)
onto_more xs n (Err e) = refl

-- the word that comes after j others of those that stand after the first n
pub record Turn (ws : List (List ℕ)) (k i : ℕ) (w : List ℕ) : Type 0 where
  pub place : i ≡ k
  pub cut : drop k ws ≡ w ∷ drop (k + 1) ws
  pub within : k < length ws

pub turn_at : (ws : List (List ℕ)) (n j : ℕ) (p : ℕ × List ℕ) → (j < length (drop n (enumerate_from 0 ws))) × (p ≡ get_or (drop n (enumerate_from 0 ws)) j p) → Turn ws (n + j) p.0 p.1
turn_at ws n j p (lt, e) =
    let within : n + j < length ws = omega (arith, length-drop n (enumerate_from 0 ws), length-enumerate_from 0 ws, lt) in
    let is = e ∙ get_or-drop n (enumerate_from 0 ws) j p ∙ get_or-enumerate_from 0 ws (n + j) p within in
    let word : p.1 ≡ get_or ws (n + j) p.1 = ap (λ (q : ℕ × List ℕ). q.1) is in
    record {
      place = ap (λ (q : ℕ × List ℕ). q.0) is ∙ zero-add (n + j);
      cut = rw add-one (drop-cons ws (n + j) p.1 within ∙ ap (λ w. w ∷ drop (suc (n + j)) ws) (sym word));
      within = within;
    }

module _ (d : Bool) (ws : List (List ℕ)) (k i : ℕ) (w xs : List ℕ) (told : Result (List ℕ) BadText) (t : Turn ws k i w) (so : onto xs (numbers_from d k (drop k ws)) ≡ told) where
  read : (r : Result ℕ BadText) → number_at d (i + 1) w ≡ r → onto xs (ahead r (numbers_from d (k + 1) (drop (k + 1) ws))) ≡ told
  read r is =
      sym (ap (λ l. onto xs (numbers_from d k l)) t.cut ∙ ap (λ q. onto xs (ahead q (numbers_from d (k + 1) (drop (k + 1) ws)))) (ap (λ q. number_at d (q + 1) w) (sym t.place) ∙ is)) ∙ so

  pub reads_more : (m n : ℕ) (ys : List ℕ) → m ≡ k + 1 → number_at d (i + 1) w ≡ Ok n → ys ≡ xs ++ n ∷ [] → onto ys (numbers_from d m (drop m ws)) ≡ told
  reads_more m n ys next is pushed =
      ap (λ q. onto ys (numbers_from d q (drop q ws))) next ∙ ap (λ l. onto l (numbers_from d (k + 1) (drop (k + 1) ws))) pushed ∙ onto_more xs n _ ∙ read (Ok n) is

  pub stops : (e : BadText) → number_at d (i + 1) w ≡ Err e → told ≡ Err e
  stops e is = sym (read (Err e) is)

-- no word is left
pub all_read : (d : Bool) (ws : List (List ℕ)) (k : ℕ) (xs : List ℕ) (told : Result (List ℕ) BadText) → length ws ≤ k → onto xs (numbers_from d k (drop k ws)) ≡ told → told ≡ Ok xs
all_read d ws k xs told le so = sym so ∙ ap (λ l. onto xs (numbers_from d k l)) (drop_all k ws le) ∙ ap Ok (append-nil xs)
