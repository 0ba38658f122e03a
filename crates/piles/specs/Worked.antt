-- Worked piles, by computation from the definitions. Assumes nothing.
use Rattle.std.specs.Prelude.{◌≡◌, ℕ, true, [], ◌∷◌}
use Rattle.heads.specs.Channels.{Channel, channel_of}
use Rattle.heads.specs.Entries.{spread, reading, faulty}
use Rattle.heads.specs.Figures.{figures_of}
use Rattle.heads.specs.EncoderTracks.{track_channel}
use Rattle.heads.specs.PhaseTables.{table_channel}
use Rattle.layers.specs.Bursts.{burst_over}

-- a burst of 3 over a table of modulus 30 and bound 2
abbrev pub burst_of_three : (a b c : ℕ) → Channel
burst_of_three a b c = burst_over 3 (table_channel 30 2 (a ∷ b ∷ c ∷ []))

pub record Worked : Type 0 where
  -- the readings pass the end of the circle, and their middle is 0
  pub round_the_circle : burst_of_three 29 1 0 ≡ channel_of (figures_of true 30 2 1) (reading 0 ∷ [])
  -- the offsets lie 5 apart, and twice the bound is 4
  pub too_wide : burst_of_three 29 4 0 ≡ channel_of (figures_of true 30 2 1) (faulty spread 1 5 4 ∷ [])
  -- a track at 37, 2 and 7 is read to a grain of 3
  pub track_past_its_modulus : track_channel 40 37 5 3 3 0 ≡ channel_of (figures_of true 40 2 0) (reading 36 ∷ reading 0 ∷ reading 6 ∷ [])
