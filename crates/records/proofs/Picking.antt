-- The last of the first items that pass a test, with its place.
use Rattle.std.proofs.Common.{◌≡◌, ℕ, zero, suc, ◌+◌, ◌<◌, Bool, true, false, List, [], ◌∷◌, map, take, filter, Some, None, Option, All, MatchOption, option_map, slice_get, sym, refl, ap, ◌∙◌, subst, ⊎_elim, arith}
use Rattle.std.proofs.lemmas.Bool.{cases_Bool}
use Rattle.std.proofs.lemmas.List.Elements.{All-nil, All-cons, All-head, All-tail, All-filter, All-take, filter_passes}
use Rattle.std.proofs.lemmas.Iterator.{YieldsList, items_from_drains}
use Rattle.std.specs.Iterator.{Drains}
use Rattle.std.specs.List.{last_or, enumerate_from}
use Rattle.records.specs.Bounds.{between, Picks}

-- the last item that an iterator yields
option_map-last_or : {A B : Type 0} (v : A → B) (o : Option A) (ys : List A) → option_map v (last_or o ys) ≡ last_or (option_map v o) (map v ys)
option_map-last_or v o [] = refl
option_map-last_or v o (y ∷ ys) = option_map-last_or v (Some y) ys

pub last_from_yields_List : {S A B : Type 0} {steps : S → Option A → S → Type 0} {v : A → B} {s : S} {all : List B} (r : Option A)
    → (ys : List A) × Drains steps s ys × (r ≡ last_or None ys) → YieldsList steps v s all → option_map v r ≡ last_or None all
last_from_yields_List {v = v} r (ys, (u, (t, d, n)), e) y = ap (option_map v) e ∙ option_map-last_or v None ys ∙ ap (last_or None) (items_from_drains ys (t, d, λ _. (u, n)) y)

last_is : {A : Type 0} (P : A → Type 0) (Q : Type 0) (a : A) (ys : List A) → P a → All P ys → MatchOption (last_or (Some a) ys) Q P
last_is P Q a [] p h = p
last_is P Q a (y ∷ ys) p h = last_is P Q y ys (All-head P y ys h) (All-tail P y ys h)

-- each number is the place of the item beside it
numbered : {K : Type 0} (k : ℕ) (xs all : List K) → ((i j : ℕ) → i ≡ k + j → slice_get xs j ≡ slice_get all i) → All (λ p. slice_get all p.0 ≡ Some p.1) (enumerate_from k xs)
numbered k [] all f = All-nil (λ p. slice_get all p.0 ≡ Some p.1)
numbered k (x ∷ xs) all f =
    All-cons (λ p. slice_get all p.0 ≡ Some p.1) (k, x) (enumerate_from (k + 1) xs) (sym (f k 0 (omega arith)))
    (numbered (k + 1) xs all (λ i j e. f i (suc j) (omega arith)))

none_pass : {K : Type 0} (t : K → Bool) (k : ℕ) (xs : List K) → filter (λ p. t p.1) (enumerate_from k xs) ≡ [] → All (λ x. t x ≡ false) xs
none_pass t k [] e = All-nil (λ x. t x ≡ false)
none_pass t k (x ∷ xs) e =
    ⊎_elim
    (λ (y : t x ≡ true). absurd (let h = rw y at e in cc))
    (λ (n : t x ≡ false). All-cons (λ x. t x ≡ false) x xs n (none_pass t (k + 1) xs (rw n at e)))
    (cases_Bool (t x))

module _ {K : Type 0} (lesser : K → K → Bool) (xs : List K) (low high : Option K) where
  -- an item between the bounds, beside its place
  abbrev Between : ℕ × K → Type 0
  Between p = (slice_get xs p.0 ≡ Some p.1) × (between lesser low high p.1 ≡ true)

  all_between : All Between (filter (λ p. between lesser low high p.1) (enumerate_from 0 xs))
  all_between k d l = (
    All-filter (λ p. between lesser low high p.1) (λ p. slice_get xs p.0 ≡ Some p.1) (enumerate_from 0 xs) (numbered 0 xs xs (λ i j e. ap (slice_get xs) (omega arith))) k d l,
    filter_passes (λ p. between lesser low high p.1) (enumerate_from 0 xs) k d l,
  )

  last_between : (n : ℕ) (ps : List (ℕ × K)) → 0 < n → filter (λ p. between lesser low high p.1) (enumerate_from 0 xs) ≡ ps → Picks lesser xs low high (last_or None (take n ps))
  last_between zero ps h e = absurd (omega arith)
  last_between (suc n) [] h e = none_pass (between lesser low high) 0 xs e
  last_between (suc n) (p ∷ ps) h e =
      let b : All Between (p ∷ ps) = subst (All Between) e all_between in
      last_is Between (All (λ x. between lesser low high x ≡ false) xs) p (take n ps) (All-head Between p ps b) (All-take Between n ps (All-tail Between p ps b))

  pub picks : (n : ℕ) (r : Option (ℕ × K)) → 0 < n → r ≡ last_or None (take n (filter (λ p. between lesser low high p.1) (enumerate_from 0 xs))) → Picks lesser xs low high r
  picks n r h e = subst (Picks lesser xs low high) (sym e) (last_between n (filter (λ p. between lesser low high p.1) (enumerate_from 0 xs)) h refl)
