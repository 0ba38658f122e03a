-- An order: of two items, which is the lesser. Items of which neither is the lesser need not be the same.
use Rattle.std.specs.Prelude.{◌≡◌, Bool, true, false, cond}
use Rattle.std.specs.declared.cmp.Ordering.{Ordering}
use Rattle.std.specs.Ordering.{MatchOrdering, is_lt}

-- any two items compare: not both are the lesser, and what is no lesser than another is no lesser than what that is no lesser than
pub record Total {K : Type 0} (lesser : K → K → Bool) : Type 0 where
  pub one_way : (x y : K) → lesser x y ≡ true → lesser y x ≡ false
  pub chain : (x y z : K) → lesser x y ≡ false → lesser y z ≡ false → lesser x z ≡ false

-- what a comparison answers
abbrev pub Compares : {K : Type 0} → (K → K → Bool) → K → K → Ordering → Type 0
Compares lesser x y r = MatchOrdering r (lesser x y ≡ true) ((lesser x y ≡ false) × (lesser y x ≡ false)) (lesser y x ≡ true)

-- the lesser, as a comparison answers it
abbrev pub lesser_by : {K : Type 0} → (K → K → Ordering) → K → K → Bool
lesser_by R x y = is_lt (R x y)

-- one order, and another for what the first holds equal
abbrev pub in_turn : {J K : Type 0} → (J → J → Bool) → (K → K → Bool) → J × K → J × K → Bool
in_turn f g x y = cond (f x.0 y.0) true (cond (f y.0 x.0) false (g x.1 y.1))
