-- What a setting tells, and what making one answers. Assumes nothing.
use Rattle.std.specs.Prelude.{◌≡◌, ℕ, ◌*◌, ◌%◌, ◌<◌, ◌≤◌, List, length, take, Ok, Err, Result, slice_index}
use Rattle.settings.specs.declared.kept.Setting.{Setting}
use Rattle.settings.specs.declared.refusals.SettingRefusal.{SettingRefusal}
use Rattle.settings.specs.declared.refusals.RemainderRefusal.{RemainderRefusal}
use Rattle.settings.specs.declared.refusals.RemainderRefusal.TheVariants.{Position, Channel}
use Rattle.settings.specs.Settings.{Accepted, Split, Leaves, modulus_at, range_of}
use Rattle.settings.specs.Refusals.{Refuses, ModuliRefused}

abbrev pub unit_of : Setting → ℕ
unit_of s = s.unit

abbrev pub factors_of : Setting → List ℕ
factors_of s = take s.count s.factors

-- the setting has just this unit and these factors
pub record Has (s : Setting) (u : ℕ) (gs : List ℕ) : Type 0 where
  pub unit_is : unit_of s ≡ u
  pub factors_are : factors_of s ≡ gs

-- one modulus for each channel
pub record ModuliTold (s : Setting) (ms : List ℕ) : Type 0 where
  pub each : length ms ≡ length (factors_of s)
  pub is : (k : ℕ) → k < length (factors_of s) → slice_index ms k ≡ modulus_at (unit_of s) (factors_of s) k

-- x is below h, and g times x is 1 modulo h
pub record Inverse (g h x : ℕ) : Type 0 where
  pub below : x < h
  pub gives_one : (g * x) % h ≡ 1

-- one inverse for each channel before k, and none where there is no channel k
pub record InversesTold (s : Setting) (k : ℕ) (xs : List ℕ) : Type 0 where
  pub none : length (factors_of s) ≤ k → length xs ≡ 0
  pub each : k < length (factors_of s) → length xs ≡ k
  pub invert : (j : ℕ) → j < k → k < length (factors_of s) → Inverse (slice_index (factors_of s) j) (slice_index (factors_of s) k) (slice_index xs j)

-- a setting from a unit and factors: all checks pass, or the first that fails is told
abbrev pub Makes : (u : ℕ) (gs : List ℕ) → Result Setting SettingRefusal → Type 0
Makes u gs (Ok s) = Accepted u gs × Has s u gs
Makes u gs (Err e) = Refuses u gs e

-- a setting from moduli: all checks pass, or the first that fails is told
abbrev pub MakesFromModuli : (ms : List ℕ) → Result Setting SettingRefusal → Type 0
MakesFromModuli ms (Ok s) = Accepted (unit_of s) (factors_of s) × Split ms (unit_of s) (factors_of s)
MakesFromModuli ms (Err e) = ModuliRefused ms e

-- the remainder of a position in a channel
abbrev pub RemainderTold : (s : Setting) (p k : ℕ) → Result ℕ RemainderRefusal → Type 0
RemainderTold s p k (Ok r) = (p < range_of (unit_of s) (factors_of s)) × (k < length (factors_of s)) × Leaves (unit_of s) (factors_of s) p k r
RemainderTold s p k (Err Position) = range_of (unit_of s) (factors_of s) ≤ p
RemainderTold s p k (Err (Channel c)) = (p < range_of (unit_of s) (factors_of s)) × (length (factors_of s) ≤ k) × (c ≡ k)
