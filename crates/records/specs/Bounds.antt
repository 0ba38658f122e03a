-- Items strictly between two bounds, each of them an item, or none.
use Rattle.std.specs.Prelude.{◌≡◌, ℕ, ◌<◌, ◌≤◌, Bool, true, false, not, ◌&&◌, List, Some, None, Option, MatchOption, ◌≢◌, All, Contains, slice_get, slice_index_or}

-- a bound is none, or an item
abbrev pub Holds : {K : Type 0} → List K → Option K → Type 0
Holds xs b = MatchOption b Unit (Contains xs)

module _ {K : Type 0} (lesser : K → K → Bool) where
  -- the order holds the two equal
  abbrev pub alike : K → K → Bool
  alike x y = not (lesser x y) && not (lesser y x)

  abbrev pub above_bound : Option K → K → Bool
  above_bound None x = true
  above_bound (Some low) x = lesser low x

  abbrev pub below_bound : Option K → K → Bool
  below_bound None x = true
  below_bound (Some high) x = lesser x high

  abbrev pub between : Option K → Option K → K → Bool
  between low high x = above_bound low x && below_bound high x

  module _ (xs : List K) where
    -- an item between the bounds, and its place; nothing where there is none
    abbrev pub Picks : Option K → Option K → Option (ℕ × K) → Type 0
    Picks low high r = MatchOption r (All (λ x. between low high x ≡ false) xs) (λ p. (slice_get xs p.0 ≡ Some p.1) × (between low high p.1 ≡ true))

    -- i is the first place of an item that the order holds equal to the one at p
    pub record FirstEqual (p i : ℕ) : Type 0 where
      pub upto : i ≤ p
      pub no_less : (d : K) → lesser (slice_index_or xs i d) (slice_index_or xs p d) ≡ false
      pub no_greater : (d : K) → lesser (slice_index_or xs p d) (slice_index_or xs i d) ≡ false
      pub first : (j : ℕ) (d : K) → j < i → lesser (slice_index_or xs j d) (slice_index_or xs p d) ≡ false → lesser (slice_index_or xs p d) (slice_index_or xs j d) ≢ false
