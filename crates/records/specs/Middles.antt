-- The middle of some items under an order: how many are smaller and how many greater, and the first that stands right.
use Rattle.std.specs.Prelude.{◌≡◌, ℕ, ◌-◌, ◌/◌, ◌<◌, ◌≤◌, Bool, cond, ◌&&◌, List, [], ◌∷◌, length, count_by, Option, MatchOption, nat_le, slice_index_or}

-- the first item that passes a test, or d
abbrev pub first_with : {K : Type 0} → (K → Bool) → K → List K → K
first_with p d [] = d
first_with p d (x ∷ xs) = cond (p x) x (first_with p d xs)

module _ {K : Type 0} (lesser : K → K → Bool) where
  abbrev pub smaller : List K → K → ℕ
  smaller xs x = count_by (λ y. lesser y x) xs

  abbrev pub greater : List K → K → ℕ
  greater xs x = count_by (λ y. lesser x y) xs

  -- of an even number of items the lower of the two in the middle
  abbrev pub Central : List K → K → Type 0
  Central xs x = (smaller xs x ≤ (length xs - 1) / 2) × (greater xs x ≤ length xs / 2)

  -- i is the place of a central item, and no place before it is
  pub record FirstCentral (xs : List K) (i : ℕ) : Type 0 where
    pub within : i < length xs
    pub central : (d : K) → Central xs (slice_index_or xs i d)
    pub first : (j : ℕ) (d : K) → j < i → Central xs (slice_index_or xs j d) → ⊥

  -- nothing where there is no item, and else the place of the first central item
  abbrev pub FindsMiddle : List K → Option ℕ → Type 0
  FindsMiddle xs r = MatchOption r (length xs ≡ 0) (λ i. FirstCentral xs i)

  abbrev pub is_central : List K → K → Bool
  is_central xs x = nat_le (smaller xs x) ((length xs - 1) / 2) && nat_le (greater xs x) (length xs / 2)

  -- the middle item itself, d where there is none
  abbrev pub middle_of : K → List K → K
  middle_of d xs = first_with (is_central xs) d xs
