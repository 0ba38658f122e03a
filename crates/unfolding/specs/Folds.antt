-- How often each channel has folded, from one reading of each; no word of bounds. Assumes nothing.
use Rattle.std.specs.Prelude.{◌≡◌, ℕ, ◌*◌, ◌<◌, List, length, ℤ, pos, negsuc, ◌+ℤ◌, ◌-ℤ◌, ◌*ℤ◌, neg_ℤ, ◌≤ℤ◌, ◌<ℤ◌, slice_index, slice_index_or}
use Rattle.std.specs.Int.{int_div_euclid}
use Rattle.residues.specs.Circle.{◌modulo◌}
use Rattle.residues.specs.Products.{PairwiseCoprime}
use Rattle.settings.specs.Settings.{modulus_at, range_of}

-- a unit with one factor or more, however many, no two of which share a divisor
pub record CoprimeChannels (u : ℕ) (gs : List ℕ) : Type 0 where
  pub unit_pos : 0 < u
  pub some : 0 < length gs
  pub factors_pos : (k : ℕ) → k < length gs → 0 < slice_index gs k
  pub coprime : PairwiseCoprime gs

-- the units from channel 0's reading to channel k's, rounded: ⌊(2(r − r₀) + M) / 2M⌋, which is 0 for channel 0
abbrev pub quotient_at : (u : ℕ) (rs : List ℕ) (k : ℕ) → ℤ
quotient_at u rs k = int_div_euclid (pos 2 *ℤ (pos (slice_index rs k) -ℤ pos (slice_index rs 0)) +ℤ pos u) (pos (2 * u))

-- n folds of channel 0 stay below the range, and agree with every channel: n·G₀ is its quotient modulo its factor
pub record Turns (u : ℕ) (gs rs : List ℕ) (n : ℕ) : Type 0 where
  pub below : n * modulus_at u gs 0 < range_of u gs
  pub agree : (k : ℕ) → k < length gs → (pos (n * slice_index gs 0) -ℤ quotient_at u rs k) modulo slice_index_or gs k 0 ≡ 0

-- channel k's folding number, where channel 0's is n
abbrev pub fold_at : (u : ℕ) (gs rs : List ℕ) (n k : ℕ) → ℤ
fold_at u gs rs n k = int_div_euclid (pos (n * slice_index gs 0) -ℤ quotient_at u rs k) (pos (slice_index gs k))

abbrev pub unfolded_at : (u : ℕ) (gs rs : List ℕ) (n k : ℕ) → ℤ
unfolded_at u gs rs n k = fold_at u gs rs n k *ℤ pos (modulus_at u gs k) +ℤ pos (slice_index rs k)

-- what is promised of the folding numbers where channel 0's is n
pub record FoldsWell (u : ℕ) (gs rs : List ℕ) (n : ℕ) : Type 0 where
  -- n has its two properties, and no other number has
  pub turns : Turns u gs rs n
  pub only : (m : ℕ) → Turns u gs rs m → m ≡ n
  pub first_is : fold_at u gs rs n 0 ≡ pos n
  pub evenly : (k : ℕ) → k < length gs → fold_at u gs rs n k *ℤ pos (slice_index gs k) ≡ pos (n * slice_index gs 0) -ℤ quotient_at u rs k
  pub at_least : (k : ℕ) → k < length gs → negsuc 0 ≤ℤ fold_at u gs rs n k
  -- each unfolded reading lies within half a unit of channel 0's
  pub near_low : (k : ℕ) → k < length gs → neg_ℤ (pos u) ≤ℤ (pos 2 *ℤ (unfolded_at u gs rs n k -ℤ unfolded_at u gs rs n 0))
  pub near_high : (k : ℕ) → k < length gs → (pos 2 *ℤ (unfolded_at u gs rs n k -ℤ unfolded_at u gs rs n 0)) <ℤ pos u
