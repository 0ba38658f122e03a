-- Worked unfoldings, by computation from the definitions. Assumes nothing.
use Rattle.std.specs.Prelude.{◌≡◌, ℕ, ◌*◌, Bool, true, false, cond, List, [], ◌∷◌, length, ℤ, pos, negsuc, ◌+ℤ◌, ◌-ℤ◌, filter, nat_le}
use Rattle.std.specs.List.{range_with_len}
use Rattle.residues.specs.Circle.{◌modulo◌, distance}
use Rattle.settings.specs.Settings.{range_of}
use Rattle.unfolding.specs.Channels.{by_channel, GreatestAt, LeastAt}
use Rattle.unfolding.specs.Folds.{quotient_at, Turns, fold_at, unfolded_at}
use Rattle.unfolding.specs.Brackets.{low_at, high_at, rounded_mean}

-- every reading, with its bound, allows p; and the positions that all of them allow, by trial of each
abbrev pub all_allow : (u : ℕ) (gs rs ts : List ℕ) (p : ℕ) → Bool
all_allow u [] rs ts p = true
all_allow u (g ∷ gs) [] ts p = true
all_allow u (g ∷ gs) (r ∷ rs) [] p = true
all_allow u (g ∷ gs) (r ∷ rs) (t ∷ ts) p = cond (nat_le (distance (u * g) (pos r) (pos p)) t) (all_allow u gs rs ts p) false

abbrev pub positions : (u : ℕ) (gs rs ts : List ℕ) → List ℕ
positions u gs rs ts = filter (all_allow u gs rs ts) (range_with_len 0 (range_of u gs))

-- the readings fold like this
pub record FoldsAs (u : ℕ) (gs rs : List ℕ) (n : ℕ) (qs fs cs : List ℤ) : Type 0 where
  pub turns : Turns u gs rs n
  pub quotients_as : by_channel (length gs) (quotient_at u rs) ≡ qs
  pub folds_as : by_channel (length gs) (fold_at u gs rs n) ≡ fs
  pub unfolded_as : by_channel (length gs) (unfolded_at u gs rs n) ≡ cs

-- with these bounds lo and hi are given first by channels k and l
pub record EndsAs (u : ℕ) (gs rs ts : List ℕ) (n : ℕ) (lo : ℤ) (k : ℕ) (hi : ℤ) (l : ℕ) : Type 0 where
  pub lo_as : GreatestAt (length gs) (low_at u gs rs ts n) lo k
  pub hi_as : LeastAt (length gs) (high_at u gs rs ts n) hi l

-- and the bracket and the mean are these
pub record BracketsAs (u : ℕ) (gs rs ts : List ℕ) (n : ℕ) (lo hi : ℤ) (from size mean : ℕ) (ps : List ℕ) : Type 0 where
  pub starts_as : lo modulo range_of u gs ≡ from
  pub counts_as : hi -ℤ lo +ℤ pos 1 ≡ pos size
  pub mean_as : rounded_mean u gs rs n modulo range_of u gs ≡ mean
  pub positions_as : positions u gs rs ts ≡ ps

-- unit 10 with factors 3, 4 and 5, every bound 2
abbrev gs₁ : List ℕ
gs₁ = 3 ∷ 4 ∷ 5 ∷ []

abbrev ts₁ : List ℕ
ts₁ = 2 ∷ 2 ∷ 2 ∷ []

abbrev read : (a b c : ℕ) → List ℕ
read a b c = a ∷ b ∷ c ∷ []

pub record ThreeReadingsAgree : Type 0 where
  pub folding_is : FoldsAs 10 gs₁ (read 19 36 37) 14 (pos 0 ∷ pos 2 ∷ pos 2 ∷ []) (pos 14 ∷ pos 10 ∷ pos 8 ∷ []) (pos 439 ∷ pos 436 ∷ pos 437 ∷ [])
  pub ends_are : EndsAs 10 gs₁ (read 19 36 37) ts₁ 14 (pos 437) 0 (pos 438) 1
  pub bracket_is : BracketsAs 10 gs₁ (read 19 36 37) ts₁ 14 (pos 437) (pos 438) 437 2 437 (437 ∷ 438 ∷ [])

-- the third quotient is −3, and the bracket passes from the last position to 0
pub record QuotientBelowZero : Type 0 where
  pub folding_is : FoldsAs 10 gs₁ (read 29 38 1) 19 (pos 0 ∷ pos 1 ∷ negsuc 2 ∷ []) (pos 19 ∷ pos 14 ∷ pos 12 ∷ []) (pos 599 ∷ pos 598 ∷ pos 601 ∷ [])
  pub ends_are : EndsAs 10 gs₁ (read 29 38 1) ts₁ 19 (pos 599) 2 (pos 600) 1
  pub bracket_is : BracketsAs 10 gs₁ (read 29 38 1) ts₁ 19 (pos 599) (pos 600) 599 2 599 (0 ∷ 599 ∷ [])

pub record OnePositionLeft : Type 0 where
  pub folding_is : FoldsAs 10 gs₁ (read 19 36 35) 14 (pos 0 ∷ pos 2 ∷ pos 2 ∷ []) (pos 14 ∷ pos 10 ∷ pos 8 ∷ []) (pos 439 ∷ pos 436 ∷ pos 435 ∷ [])
  pub ends_are : EndsAs 10 gs₁ (read 19 36 35) ts₁ 14 (pos 437) 0 (pos 437) 2
  pub bracket_is : BracketsAs 10 gs₁ (read 19 36 35) ts₁ 14 (pos 437) (pos 437) 437 1 437 (437 ∷ [])

-- channel 0 exceeds channel 2 by 1
pub record ContradictedByOne : Type 0 where
  pub turns : Turns 10 gs₁ (read 19 36 34) 14
  pub ends_are : EndsAs 10 gs₁ (read 19 36 34) ts₁ 14 (pos 437) 0 (pos 436) 2
  pub none : positions 10 gs₁ (read 19 36 34) ts₁ ≡ []

-- channel 2 exceeds channel 1 by 2
pub record ContradictedByTheLastChannel : Type 0 where
  pub turns : Turns 10 gs₁ (read 19 36 32) 2
  pub ends_are : EndsAs 10 gs₁ (read 19 36 32) ts₁ 2 (pos 80) 2 (pos 78) 1
  pub none : positions 10 gs₁ (read 19 36 32) ts₁ ≡ []

-- readings that are whole remainders: unit 1 and bounds 0
pub record PlainRemainders : Type 0 where
  pub folding_is : FoldsAs 1 (3 ∷ 5 ∷ 7 ∷ []) (read 2 3 2) 7 (pos 0 ∷ pos 1 ∷ pos 0 ∷ []) (pos 7 ∷ pos 4 ∷ pos 3 ∷ []) (pos 23 ∷ pos 23 ∷ pos 23 ∷ [])
  pub ends_are : EndsAs 1 (3 ∷ 5 ∷ 7 ∷ []) (read 2 3 2) (0 ∷ 0 ∷ 0 ∷ []) 7 (pos 23) 0 (pos 23) 0
  pub bracket_is : BracketsAs 1 (3 ∷ 5 ∷ 7 ∷ []) (read 2 3 2) (0 ∷ 0 ∷ 0 ∷ []) 7 (pos 23) (pos 23) 23 1 23 (23 ∷ [])

-- two channels have folded −1 times
pub record FoldedBelowZero : Type 0 where
  pub folding_is : FoldsAs 10 gs₁ (read 0 39 49) 0 (pos 0 ∷ pos 4 ∷ pos 5 ∷ []) (pos 0 ∷ negsuc 0 ∷ negsuc 0 ∷ []) (pos 0 ∷ negsuc 0 ∷ negsuc 0 ∷ [])
  pub ends_are : EndsAs 10 gs₁ (read 0 39 49) ts₁ 0 (negsuc 1) 0 (pos 1) 1
  pub bracket_is : BracketsAs 10 gs₁ (read 0 39 49) ts₁ 0 (negsuc 1) (pos 1) 598 4 599 (0 ∷ 1 ∷ 598 ∷ 599 ∷ [])

pub record Worked : Type 0 where
  pub agreeing : ThreeReadingsAgree
  pub quotient_below_zero : QuotientBelowZero
  pub one_position_left : OnePositionLeft
  pub contradicted_by_one : ContradictedByOne
  pub contradicted_by_the_last : ContradictedByTheLastChannel
  pub plain_remainders : PlainRemainders
  pub folded_below_zero : FoldedBelowZero
