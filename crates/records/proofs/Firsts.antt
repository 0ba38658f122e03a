-- The first central item is the middle itself.
use Rattle.std.proofs.Common.{◌≡◌, ℕ, zero, suc, ◌-◌, ◌/◌, ◌<◌, ◌≤◌, Bool, true, false, leb, List, [], ◌∷◌, length, get_or, Some, None, Option, refl, sym, ⊎_elim, arith, le-leb, leb-true}
use Rattle.std.proofs.lemmas.Bool.{cases_Bool, and_parts, and_from, both_ways}
use Rattle.std.proofs.lemmas.Grind.{common_steps}
use Rattle.std.proofs.lemmas.List.Quantifiers.{position-Some}
use Rattle.std.proofs.lemmas.List.Sums.{fails_before_first}
use Rattle.std.specs.List.{position, position_or_len}
use Rattle.records.specs.Orders.{Total}
use Rattle.records.specs.Middles.{smaller, greater, Central, FirstCentral, FindsMiddle, first_with, is_central, middle_of}
use Rattle.records.proofs.Centres.{none_left}

-- the item at a place that passes, where none before it does
first_at : {K : Type 0} (p : K → Bool) (d : K) (xs : List K) (i : ℕ) → i < length xs → p (get_or xs i d) ≡ true → ((j : ℕ) → j < i → p (get_or xs j d) ≡ false) → get_or xs i d ≡ first_with p d xs
first_at p d [] i l y n = absurd (omega arith)
first_at p d (x ∷ xs) zero l y n = rw y refl
first_at p d (x ∷ xs) (suc i) l y n = rw (n 0 (omega arith)) (first_at p d xs i (omega arith) y (λ j h. n (suc j) (omega arith)))

position-None : {K : Type 0} (p : K → Bool) (xs : List K) → position p xs ≡ None → (j : ℕ) (d : K) → j < length xs → p (get_or xs j d) ≡ false
position-None p xs e j d h = let past : length xs ≤ position_or_len p xs = grind (arith, common_steps) in fails_before_first p xs j d (omega arith)

position_within : {K : Type 0} (p : K → Bool) (xs : List K) (i : ℕ) → position p xs ≡ Some i → i < length xs
position_within p xs i e = grind (arith, common_steps)

module _ {K : Type 0} (lesser : K → K → Bool) where
  central_passes : (xs : List K) (x : K) → Central lesser xs x → is_central lesser xs x ≡ true
  central_passes xs x c = and_from (leb (smaller lesser xs x) ((length xs - 1) / 2)) (leb (greater lesser xs x) (length xs / 2)) (le-leb _ _ c.0) (le-leb _ _ c.1)

  passes_central : (xs : List K) (x : K) → is_central lesser xs x ≡ true → Central lesser xs x
  passes_central xs x e = let (a, b) = and_parts (leb (smaller lesser xs x) ((length xs - 1) / 2)) (leb (greater lesser xs x) (length xs / 2)) e in (leb-true _ _ a, leb-true _ _ b)

  pub first_is_middle : (d : K) (xs : List K) (i : ℕ) → FirstCentral lesser xs i → get_or xs i d ≡ middle_of lesser d xs
  first_is_middle d xs i f =
      first_at (is_central lesser xs) d xs i f.within (central_passes xs (get_or xs i d) (f.central d))
      (λ j h. ⊎_elim (λ (y : is_central lesser xs (get_or xs j d) ≡ true). absurd (f.first j d h (passes_central xs (get_or xs j d) y))) (λ n. n) (cases_Bool (is_central lesser xs (get_or xs j d))))

  -- the place of the first central item, where there is one
  pub finds_middle : Total lesser → (xs : List K) (r : Option ℕ) → r ≡ position (is_central lesser xs) xs → FindsMiddle lesser xs r
  finds_middle o xs None e =
      none_left lesser o xs (λ j d h c. both_ways (is_central lesser xs (get_or xs j d)) (position-None (is_central lesser xs) xs (sym e) j d h) (central_passes xs (get_or xs j d) c))
  finds_middle o xs (Some i) e =
      let at : (d : K) → (i < length xs) × (is_central lesser xs (get_or xs i d) ≡ true) × ((k : ℕ) → k < i → is_central lesser xs (get_or xs k d) ≡ false) =
      λ d. position-Some (is_central lesser xs) xs i d (sym e) in
      record {
        within = position_within (is_central lesser xs) xs i (sym e);
        central = λ d. passes_central xs (get_or xs i d) (at d).1;
        first = λ j d h c. both_ways (is_central lesser xs (get_or xs j d)) ((at d).2 j h) (central_passes xs (get_or xs j d) c);
      }
