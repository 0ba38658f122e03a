-- Columns: what a playback has of one channel. Assumes nothing.
use Rattle.std.specs.Prelude.{◌≡◌, ℕ, ◌<◌, List, Some, None, Ok, Err, Option, Result}
use Rattle.std.specs.List.{slice_get}
use Rattle.banks.specs.declared.faults.BankFault.{BankFault}
use Rattle.banks.specs.declared.faults.BankFault.TheVariants.{NoSuchChannel}
use Rattle.banks.specs.Banks.{channel_at}
use Rattle.recordings.specs.declared.recording.Recording.{Recording}
use Rattle.playbacks.specs.declared.columns.Column.{Column}
use Rattle.playbacks.specs.Playing.{few_entries, playback_channels}

-- c is the column of channel k of a recording with few enough
pub record IsColumn (r : Recording) (k : ℕ) (c : Column) : Type 0 where
  pub recording_is : c.recording ≡ r
  pub channel_is : c.channel ≡ k
  pub entry_is : slice_get (few_entries r) k ≡ Some c.entry
  pub within : k < 8

-- the column of channel k of the recording that is played, or that no channel k is played
abbrev pub Found : Option Recording → (k : ℕ) → Result Column BankFault → Type 0
Found o k (Ok c) = (o ≡ Some c.recording) × IsColumn c.recording k c
Found o k (Err e) = (e ≡ NoSuchChannel k) × ((rows : List ℕ) → channel_at k (playback_channels o rows) ≡ None)
