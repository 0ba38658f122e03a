-- An encoder track: its figures and what waits in it. Assumes nothing.
use Rattle.std.specs.Prelude.{ℕ, zero, suc, ◌+◌, ◌-◌, ◌*◌, ◌%◌, ◌^◌, Bool, ◌&&◌, List, [], ◌∷◌, nat_le, nat_lt}
use Rattle.heads.specs.declared.plates.Figures.{Figures}
use Rattle.heads.specs.Entries.{Entry, reading}
use Rattle.heads.specs.Channels.{Channel, channel_of}
use Rattle.heads.specs.Figures.{fits, figures_of}
use Rattle.heads.specs.PhaseTables.{if_fit}

-- a place y brought down to a multiple of the grain d
abbrev pub grained : (d y : ℕ) → ℕ
grained d y = y - y % d

-- reading k of a track of modulus m from p in steps of v
abbrev pub track_reading : (m p v d k : ℕ) → ℕ
track_reading m p v d k = grained d ((p + k * v) % m)

-- n readings from number k on
abbrev pub track_readings : (m p v d k n : ℕ) → List Entry
track_readings m p v d k zero = []
track_readings m p v d k (suc n) = reading (track_reading m p v d k) ∷ track_readings m p v d (suc k) n

abbrev pub track_fits : (m p v d n : ℕ) → Bool
track_fits m p v d n = nat_le 1 d && (fits m (d - 1) && (nat_lt p m && (nat_lt v m && nat_le n (2 ^ 20))))

-- a track never reads above the truth, and less than a grain below it
abbrev pub track_told : (m p v d n : ℕ) → Figures
track_told m p v d n = figures_of (track_fits m p v d n) m (d - 1) 0

-- what waits once k of the n readings were taken
abbrev pub track_waits : (m p v d n k : ℕ) → List Entry
track_waits m p v d n k = if_fit (track_fits m p v d n) (track_readings m p v d k (n - k))

-- the track once k of its readings were taken
abbrev pub track_channel : (m p v d n k : ℕ) → Channel
track_channel m p v d n k = channel_of (track_told m p v d n) (track_waits m p v d n k)
