-- Counts of the items that pass a test, compared.
use Rattle.std.proofs.Common.{◌≡◌, ℕ, zero, suc, ◌+◌, ◌<◌, ◌≤◌, Bool, true, false, cond, ◌&&◌, ◌⊎◌, List, [], ◌∷◌, length, get_or, take, count_by, All, refl, sym, ap, ◌∙◌, inl, inr, ⊎_elim, Ordering, Less, Equal, Greater, is_lt, is_gt, zero-add, arith}
use Rattle.std.proofs.lemmas.Bool.{cases_Bool, cases_lt, and_cases}
use Rattle.std.proofs.lemmas.List.Sums.{sum_by-cons, sum_by_more, sum_by-le-sum_by, passes_at_first, fails_before_first}
use Rattle.std.specs.List.{position_or_len}
use Rattle.records.specs.Orders.{Total, Compares}
use Rattle.records.specs.Middles.{smaller, greater}

-- what one test counts, where the other passes with it
counts : (a b : Bool) → (a ≡ true → b ≡ true) → cond a 1 0 ≤ cond b 1 0
counts true b f = rw (f refl) (omega arith)
counts false b f = omega arith

module _ {K : Type 0} where
  count_yes : (p : K → Bool) (x : K) (xs : List K) → p x ≡ true → count_by p (x ∷ xs) ≡ 1 + count_by p xs
  count_yes p x xs e = sum_by-cons (λ v. cond (p v) 1 0) x xs ∙ ap (λ b. cond b 1 0 + count_by p xs) e

  count_no : (p : K → Bool) (x : K) (xs : List K) → p x ≡ false → count_by p (x ∷ xs) ≡ count_by p xs
  count_no p x xs e = sum_by-cons (λ v. cond (p v) 1 0) x xs ∙ ap (λ b. cond b 1 0 + count_by p xs) e ∙ zero-add (count_by p xs)

  count_grows : (p : K → Bool) (x : K) (xs : List K) → (count_by p xs ≤ count_by p (x ∷ xs)) × (count_by p (x ∷ xs) ≤ 1 + count_by p xs)
  count_grows p x xs =
      ⊎_elim
      (λ (e : p x ≡ true). (omega (arith, count_yes p x xs e), omega (arith, count_yes p x xs e)))
      (λ (e : p x ≡ false). (omega (arith, count_no p x xs e), omega (arith, count_no p x xs e)))
      (cases_Bool (p x))

  -- one item more is counted
  count_more : (p : K → Bool) (xs : List K) (i : ℕ) (y : K) → i < length xs → y ≡ get_or xs i y → (b : Bool) → p y ≡ b → count_by p (take (i + 1) xs) ≡ count_by p (take i xs) + cond b 1 0
  count_more p xs i y h e b q = sum_by_more (λ v. cond (p v) 1 0) xs i y h ∙ ap (λ v. count_by p (take i xs) + cond v 1 0) (ap p (sym e) ∙ q)

  -- one item more is smaller, or greater, or neither
  pub one_more : (lesser : K → K → Bool) → Total lesser → (xs : List K) (i : ℕ) (y x : K) → i < length xs → y ≡ get_or xs i y → (r : Ordering) → Compares lesser y x r
      → (smaller lesser (take (i + 1) xs) x ≡ smaller lesser (take i xs) x + cond (is_lt r) 1 0) × (greater lesser (take (i + 1) xs) x ≡ greater lesser (take i xs) x + cond (is_gt r) 1 0)
  one_more lesser o xs i y x h e Less c = (count_more (λ v. lesser v x) xs i y h e true c, count_more (λ v. lesser x v) xs i y h e false (o.one_way y x c))
  one_more lesser o xs i y x h e Equal c = (count_more (λ v. lesser v x) xs i y h e false c.0, count_more (λ v. lesser x v) xs i y h e false c.1)
  one_more lesser o xs i y x h e Greater c = (count_more (λ v. lesser v x) xs i y h e false (o.one_way x y c), count_more (λ v. lesser x v) xs i y h e true c)

  pub all_pass : (xs : List K) → count_by (λ _. true) xs ≡ length xs
  all_pass [] = refl
  all_pass (x ∷ xs) = omega (arith, count_yes (λ _. true) x xs refl, all_pass xs)

  -- where no item passes both tests
  pub not_both : (p q : K → Bool) (xs : List K) → ((j : ℕ) (d : K) → j < length xs → (p (get_or xs j d) && q (get_or xs j d)) ≡ false) → count_by p xs + count_by q xs ≤ length xs
  not_both p q [] h = omega arith
  not_both p q (x ∷ xs) h =
      let r = not_both p q xs (λ j d l. h (suc j) d (omega arith)) in
      let a = count_grows p x xs in
      let b = count_grows q x xs in
      ⊎_elim
      (λ (e : p x ≡ false). omega (arith, count_no p x xs e))
      (λ (e : q x ≡ false). omega (arith, count_no q x xs e))
      (and_cases (p x) (q x) (h 0 x (omega arith)))

  -- where each item passes one of the tests
  pub one_of : (p q : K → Bool) → ((z : K) → (p z ≡ true) ⊎ (q z ≡ true)) → (xs : List K) → length xs ≤ count_by p xs + count_by q xs
  one_of p q f [] = omega arith
  one_of p q f (x ∷ xs) =
      let r = one_of p q f xs in
      let a = count_grows p x xs in
      let b = count_grows q x xs in
      ⊎_elim
      (λ (e : p x ≡ true). omega (arith, count_yes p x xs e))
      (λ (e : q x ≡ true). omega (arith, count_yes q x xs e))
      (f x)

  -- where one test passes, the other does
  pub no_more : (p q : K → Bool) → ((z : K) → p z ≡ true → q z ≡ true) → (xs : List K) → count_by p xs ≤ count_by q xs
  no_more p q f xs = sum_by-le-sum_by (λ z. cond (p z) 1 0) (λ z. cond (q z) 1 0) xs (λ z. counts (p z) (q z) (f z))

  -- and an item that only the other lets pass
  pub fewer : (p q : K → Bool) → ((z : K) → p z ≡ true → q z ≡ true) → (xs : List K) (i : ℕ) (d : K) → i < length xs → q (get_or xs i d) ≡ true → p (get_or xs i d) ≡ false → count_by p xs < count_by q xs
  fewer p q f [] i d l y n = absurd (omega arith)
  fewer p q f (x ∷ xs) zero d l y n = let r = no_more p q f xs in omega (arith, count_yes q x xs y, count_no p x xs n)
  fewer p q f (x ∷ xs) (suc i) d l y n =
      let r = fewer p q f xs i d (omega arith) y n in
      let b = count_grows q x xs in
      ⊎_elim
      (λ (e : p x ≡ true). omega (arith, count_yes p x xs e, count_yes q x xs (f x e)))
      (λ (e : p x ≡ false). omega (arith, count_no p x xs e))
      (cases_Bool (p x))

  -- an item that passes, or none does
  pub find : (p : K → Bool) (xs : List K) → ((i : ℕ) × (i < length xs) × ((e : K) → p (get_or xs i e) ≡ true)) ⊎ All (λ z. p z ≡ false) xs
  find p xs =
      ⊎_elim
      (λ (h : position_or_len p xs < length xs). inl (position_or_len p xs, h, λ e. passes_at_first p xs e h))
      (λ (h : length xs ≤ position_or_len p xs). inr (λ j e l. fails_before_first p xs j e (omega arith)))
      (cases_lt (position_or_len p xs) (length xs))
