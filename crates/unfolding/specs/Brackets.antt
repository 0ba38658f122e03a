-- Which positions the readings allow, and the bracket and mean that tell them. Assumes nothing.
use Rattle.std.specs.Prelude.{ℕ, ◌*◌, ◌<◌, ◌≤◌, ◌↔◌, List, length, ℤ, pos, ◌+ℤ◌, ◌-ℤ◌, ◌*ℤ◌, slice_index}
use Rattle.std.specs.Int.{int_div_euclid}
use Rattle.residues.specs.Circle.{◌modulo◌, distance, Allows}
use Rattle.settings.specs.Settings.{modulus_at}
use Rattle.unfolding.specs.Channels.{total}
use Rattle.unfolding.specs.Folds.{unfolded_at}

-- every reading, with its bound, allows P
abbrev pub Allowed : (u : ℕ) (gs rs ts : List ℕ) → ℤ → Type 0
Allowed u gs rs ts P = (k : ℕ) → k < length gs → Allows (modulus_at u gs k) (slice_index ts k) (slice_index rs k) P

-- P is one of `size` positions going up from `from`, round a circle of R
abbrev pub InBracket : (R from size : ℕ) → ℤ → Type 0
InBracket R from size P = (P -ℤ pos from) modulo R < size

-- the bracket has just the positions of the set S, each once, and at least one
pub record Exact (R from size : ℕ) (S : ℤ → Type 0) : Type 0 where
  pub starts : from < R
  pub some : 1 ≤ size
  pub once : size ≤ R
  pub holds : (p : ℕ) → p < R → InBracket R from size (pos p) ↔ S (pos p)

-- no position of the range is in the set
abbrev pub NoPosition : (R : ℕ) (S : ℤ → Type 0) → Type 0
NoPosition R S = (p : ℕ) → p < R → S (pos p) → ⊥

-- where channel k's reading, unfolded, begins and ends to allow
abbrev pub low_at : (u : ℕ) (gs rs ts : List ℕ) (n k : ℕ) → ℤ
low_at u gs rs ts n k = unfolded_at u gs rs n k -ℤ pos (slice_index ts k)

abbrev pub high_at : (u : ℕ) (gs rs ts : List ℕ) (n k : ℕ) → ℤ
high_at u gs rs ts n k = unfolded_at u gs rs n k +ℤ pos (slice_index ts k)

-- the mean of the unfolded readings, rounded: ⌊(2S + K) / 2K⌋
abbrev pub rounded_mean : (u : ℕ) (gs rs : List ℕ) (n : ℕ) → ℤ
rounded_mean u gs rs n = int_div_euclid (pos 2 *ℤ total (length gs) (unfolded_at u gs rs n) +ℤ pos (length gs)) (pos (2 * length gs))

-- no position of the bracket is farther from m round R than t, where t is no less than any bound
abbrev pub MeanNear : (R from size m : ℕ) → List ℕ → Type 0
MeanNear R from size m ts =
    (t : ℕ) → ((k : ℕ) → k < length ts → slice_index ts k ≤ t) → (p : ℕ) → p < R → InBracket R from size (pos p) → distance R (pos m) (pos p) ≤ t
