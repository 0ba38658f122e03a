-- The theorem of robust remainders, by the errors of the readings; no word of bounds. Assumes nothing.
use Rattle.std.specs.Prelude.{◌≡◌, ℕ, ◌<◌, List, length, ℤ, pos, ◌+ℤ◌, ◌*ℤ◌, neg_ℤ, ◌<ℤ◌, slice_index}
use Rattle.settings.specs.Settings.{modulus_at, range_of}
use Rattle.unfolding.specs.Folds.{CoprimeChannels, Turns, unfolded_at}

-- r is N and the error e, round a circle of m, and four times the error is less than the unit u either way
pub record ReadsNear (u m r : ℕ) (N e : ℤ) : Type 0 where
  pub round : (j : ℤ) × (pos r ≡ N +ℤ e +ℤ j *ℤ pos m)
  pub above : neg_ℤ (pos u) <ℤ (pos 4 *ℤ e)
  pub below : (pos 4 *ℤ e) <ℤ pos u

-- where every reading is one whole number and such an error, every unfolded reading is that number, its error and one common multiple of the range
abbrev pub Robust : (u : ℕ) (gs rs : List ℕ) (n : ℕ) → Type 0
Robust u gs rs n =
    (N : ℤ) (error : ℕ → ℤ) → ((k : ℕ) → k < length gs → ReadsNear u (modulus_at u gs k) (slice_index rs k) N (error k))
    → (j : ℤ) × ((k : ℕ) → k < length gs → unfolded_at u gs rs n k ≡ N +ℤ error k +ℤ j *ℤ pos (range_of u gs))

-- and so for any count of channels, any readings, and the one number of folds of channel 0 that agrees with all of them
abbrev pub RobustRemainders : Type 0
RobustRemainders = (u : ℕ) (gs rs : List ℕ) (n : ℕ) → CoprimeChannels u gs → Turns u gs rs n → Robust u gs rs n
