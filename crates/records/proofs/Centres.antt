-- That a central item exists, and that the order holds any two equal.
use Rattle.std.proofs.Common.{◌≡◌, ℕ, zero, suc, ◌-◌, ◌/◌, ◌<◌, ◌≤◌, Bool, true, false, ◌&&◌, List, [], ◌∷◌, length, get_or, count_by, Ordering, Less, Equal, Greater, refl, inl, inr, ⊎_elim, arith}
use Rattle.std.proofs.lemmas.Bool.{cases_Bool, cases_lt, both_ways, and_parts, and_from, and_right, and_left}
use Rattle.std.specs.Ordering.{MatchOrdering}
use Rattle.records.specs.Orders.{Total}
use Rattle.records.specs.Middles.{smaller, greater, Central}
use Rattle.records.proofs.Counts.{all_pass, not_both, one_of, no_more, fewer, find}

-- an item that the middle lies beside is not central
pub beside : (r : Ordering) (n b a : ℕ) → MatchOrdering r ((n - 1) / 2 < b) ((b ≤ (n - 1) / 2) × (a ≤ n / 2)) (n / 2 < a) → (r ≡ Equal → ⊥) → b ≤ (n - 1) / 2 → a ≤ n / 2 → ⊥
beside Less n b a h e l m = omega arith
beside Equal n b a h e l m = e refl
beside Greater n b a h e l m = omega arith

module _ {K : Type 0} (lesser : K → K → Bool) (o : Total lesser) where
  pub never_self : (x : K) → lesser x x ≡ false
  never_self x = ⊎_elim (λ t. o.one_way x x t) (λ f. f) (cases_Bool (lesser x x))

  -- a lesser item is below what one that is no greater is below
  pub low_side : (x y z : K) → lesser x y ≡ true → lesser z y ≡ false → lesser x z ≡ true
  low_side x y z p n = ⊎_elim (λ t. t) (λ f. absurd (both_ways (lesser x y) (o.chain x z y f n) p)) (cases_Bool (lesser x z))

  pub high_side : (x y z : K) → lesser x y ≡ true → lesser x z ≡ false → lesser z y ≡ true
  high_side x y z p n = ⊎_elim (λ t. t) (λ f. absurd (both_ways (lesser x y) (o.chain x z y n f) p)) (cases_Bool (lesser z y))

  pub across : (x y z : K) → lesser x y ≡ true → lesser y z ≡ true → lesser x z ≡ true
  across x y z p q = low_side x y z p (o.one_way y z q)

  -- of two items in the order, not both are central
  pub apart : (xs : List K) (x y : K) → 0 < length xs → lesser x y ≡ true → Central lesser xs x → Central lesser xs y → ⊥
  apart xs x y some p a b =
      let r = one_of (λ z. lesser z y) (λ z. lesser x z)
      (λ z. ⊎_elim (λ t. inr t) (λ n. inl (high_side x y z p n)) (cases_Bool (lesser x z))) xs in
      omega (arith, a.1, b.0, r)

  -- what the order holds equal to a central item is central
  pub alike : (xs : List K) (x y : K) → lesser x y ≡ false → lesser y x ≡ false → Central lesser xs x → Central lesser xs y
  alike xs x y n m c =
      let s = no_more (λ z. lesser z y) (λ z. lesser z x) (λ z p. low_side z y x p n) xs in
      let g = no_more (λ z. lesser y z) (λ z. lesser x z) (λ z p. high_side y z x p m) xs in
      (omega (arith, s, c.0), omega (arith, g, c.1))

  -- tests that what is greater passes too, and what is lesser
  abbrev pub Up : (K → Bool) → Type 0
  Up p = (y z : K) → lesser y z ≡ true → p y ≡ true → p z ≡ true

  abbrev pub Down : (K → Bool) → Type 0
  Down q = (y z : K) → lesser y z ≡ true → q z ≡ true → q y ≡ true

  -- fewer items stand between two bounds once one that did is a bound
  pub high_falls : (p q : K → Bool) → Down q → (xs : List K) (i : ℕ) (d : K) → i < length xs → (p (get_or xs i d) && q (get_or xs i d)) ≡ true
      → count_by (λ y. p y && lesser y (get_or xs i d)) xs < count_by (λ y. p y && q y) xs
  high_falls p q down xs i d l e =
      let pq = and_parts (p (get_or xs i d)) (q (get_or xs i d)) e in
      fewer (λ y. p y && lesser y (get_or xs i d)) (λ y. p y && q y)
      (λ y h. let a = and_parts (p y) (lesser y (get_or xs i d)) h in and_from (p y) (q y) a.0 (down y (get_or xs i d) a.1 pq.1))
      xs i d l e (and_right (p (get_or xs i d)) (lesser (get_or xs i d) (get_or xs i d)) (never_self (get_or xs i d)))

  pub low_falls : (p q : K → Bool) → Up p → (xs : List K) (i : ℕ) (d : K) → i < length xs → (p (get_or xs i d) && q (get_or xs i d)) ≡ true
      → count_by (λ y. lesser (get_or xs i d) y && q y) xs < count_by (λ y. p y && q y) xs
  low_falls p q up xs i d l e =
      let pq = and_parts (p (get_or xs i d)) (q (get_or xs i d)) e in
      fewer (λ y. lesser (get_or xs i d) y && q y) (λ y. p y && q y)
      (λ y h. let a = and_parts (lesser (get_or xs i d) y) (q y) h in and_from (p y) (q y) (up (get_or xs i d) y a.0 pq.0) a.1)
      xs i d l e (and_left (lesser (get_or xs i d) (get_or xs i d)) (q (get_or xs i d)) (never_self (get_or xs i d)))

  -- too many items stand above the one bound and below the other for none to stand between
  pub some_between : (p q : K → Bool) (xs : List K) → length xs / 2 < count_by p xs → (length xs - 1) / 2 < count_by q xs
      → ((j : ℕ) (d : K) → j < length xs → (p (get_or xs j d) && q (get_or xs j d)) ≡ false) → ⊥
  some_between p q xs many more none = omega (arith, not_both p q xs none)

  narrow : (m : ℕ) (p q : K → Bool) → Up p → Down q → (d : K) (xs : List K) → count_by (λ y. p y && q y) xs < m
      → length xs / 2 < count_by p xs → (length xs - 1) / 2 < count_by q xs → (i : ℕ) × (i < length xs) × Central lesser xs (get_or xs i d)
  narrow zero p q up down d xs few many more = absurd (omega arith)
  narrow (suc m) p q up down d xs few many more =
      ⊎_elim
      (λ (r : (i : ℕ) × (i < length xs) × ((e : K) → (p (get_or xs i e) && q (get_or xs i e)) ≡ true)).
      ⊎_elim
      (λ (h : (length xs - 1) / 2 < smaller lesser xs (get_or xs r.0 d)).
      narrow m p (λ y. lesser y (get_or xs r.0 d)) up (λ y z a b. across y z (get_or xs r.0 d) a b) d xs
      (omega (arith, high_falls p q down xs r.0 d r.1 (r.2 d))) many h)
      (λ (low : smaller lesser xs (get_or xs r.0 d) ≤ (length xs - 1) / 2). ⊎_elim
      (λ (h : length xs / 2 < greater lesser xs (get_or xs r.0 d)).
      narrow m (λ y. lesser (get_or xs r.0 d) y) q (λ y z a b. across (get_or xs r.0 d) y z b a) down d xs
      (omega (arith, low_falls p q up xs r.0 d r.1 (r.2 d))) h more)
      (λ (high : greater lesser xs (get_or xs r.0 d) ≤ length xs / 2). (r.0, r.1, (low, high)))
      (cases_lt (length xs / 2) (greater lesser xs (get_or xs r.0 d))))
      (cases_lt ((length xs - 1) / 2) (smaller lesser xs (get_or xs r.0 d))))
      (λ (none : (j : ℕ) (e : K) → j < length xs → (p (get_or xs j e) && q (get_or xs j e)) ≡ false). absurd (some_between p q xs many more none))
      (find (λ y. p y && q y) xs)

  -- where no item is central there is none
  pub none_left : (xs : List K) → ((j : ℕ) (d : K) → j < length xs → Central lesser xs (get_or xs j d) → ⊥) → length xs ≡ 0
  none_left [] h = refl
  none_left (x ∷ xs) h =
      let n = all_pass (x ∷ xs) in
      let r = narrow (suc (length (x ∷ xs))) (λ _. true) (λ _. true) (λ _ _ _ _. refl) (λ _ _ _ _. refl) x (x ∷ xs) (omega (arith, n)) (omega (arith, n)) (omega (arith, n)) in
      absurd (h r.0 x r.1 r.2)
