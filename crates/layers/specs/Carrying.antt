-- Zeros and gears over a channel's meaning, and where each carries a position. Assumes nothing.
use Rattle.std.specs.Prelude.{◌≡◌, ℕ, ◌≤◌, ℤ, pos, ◌+ℤ◌, ◌-ℤ◌, ◌*ℤ◌, unsigned_abs}
use Rattle.heads.specs.Channels.{Channel, channel_of}
use Rattle.layers.specs.Layering.{zero_told, zero_waits, gear_told, gear_waits}

abbrev pub zero_over : (z : ℕ) → Channel → Channel
zero_over z c = channel_of (zero_told z c.figures) (zero_waits z c.figures c.waits)

abbrev pub gear_over : (s w : ℕ) → Channel → Channel
gear_over s w c = channel_of (gear_told s w c.figures) (gear_waits s w c.figures c.waits)

-- zero z carries a position z on
abbrev pub ZeroCarries : (z : ℕ) (P Q : ℤ) → Type 0
ZeroCarries z P Q = Q ≡ P +ℤ pos z

-- gear s, w carries a position to any number within w of s times it
abbrev pub GearCarries : (s w : ℕ) (P Q : ℤ) → Type 0
GearCarries s w P Q = unsigned_abs (Q -ℤ P *ℤ pos s) ≤ w
