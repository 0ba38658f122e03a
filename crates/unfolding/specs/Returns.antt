-- Exact remainders, and the position that they are of. Assumes nothing.
use Rattle.std.specs.Prelude.{◌≡◌, ℕ, ◌%◌, ◌<◌, List, length, Ok, Err, Result, slice_index}
use Rattle.settings.specs.Settings.{modulus_at, range_of}
use Rattle.unfolding.specs.declared.kept.Unfolding.{Unfolding}
use Rattle.unfolding.specs.declared.refusals.UnfoldRefusal.{UnfoldRefusal}
use Rattle.unfolding.specs.Refusals.{Paired}

abbrev pub BoundsZero : (ts : List ℕ) → Type 0
BoundsZero ts = (k : ℕ) → k < length ts → slice_index ts k ≡ 0

-- the readings are the remainders of N
abbrev pub RemaindersOf : (u : ℕ) (gs : List ℕ) (N : ℕ) (rs : List ℕ) → Type 0
RemaindersOf u gs N rs = (k : ℕ) → k < length gs → slice_index rs k ≡ N % modulus_at u gs k

-- the unfolding is a bracket of the one position whose remainders were read
pub record Found (u : ℕ) (gs rs : List ℕ) (w : Unfolding) : Type 0 where
  pub alone : w.count ≡ 1
  pub its_remainders : RemaindersOf u gs w.start rs

-- with bounds 0, what is unfolded has the start as its position
abbrev pub Finds : (u : ℕ) (gs rs ts : List ℕ) → Result Unfolding UnfoldRefusal → Type 0
Finds u gs rs ts (Ok w) = BoundsZero ts → Found u gs rs w
Finds u gs rs ts (Err e) = Unit {0}

-- and the remainders of a position are unfolded, to that position
abbrev pub IsFound : (u : ℕ) (gs rs ts : List ℕ) → Result Unfolding UnfoldRefusal → Type 0
IsFound u gs rs ts r =
    (N : ℕ) → N < range_of u gs → Paired gs rs ts → BoundsZero ts → RemaindersOf u gs N rs → (w : Unfolding) × (r ≡ Ok w) × (w.start ≡ N) × (w.count ≡ 1)
