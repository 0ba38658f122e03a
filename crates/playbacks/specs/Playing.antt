-- A recording as a bank: each channel is a phase table over its column, and goes down the rows by itself. Assumes nothing.
use Rattle.std.specs.Prelude.{◌≡◌, ℕ, suc, Bool, true, false, List, [], ◌∷◌, length, drop, Some, None, Option, nat_le, slice_index}
use Rattle.std.specs.List.{slice_get}
use Rattle.heads.specs.Channels.{Channel}
use Rattle.heads.specs.PhaseTables.{table_channel}
use Rattle.banks.specs.Banks.{channel_at}
use Rattle.recordings.specs.declared.entries.ChannelEntry.{ChannelEntry}
use Rattle.recordings.specs.declared.recording.Recording.{Recording}
use Rattle.recordings.specs.declared.refusals.CheckRefusal.{CheckRefusal}
use Rattle.recordings.specs.Layout.{Records}
use Rattle.recordings.specs.Refusals.{CheckRefused}
use Rattle.recordings.specs.Contents.{column, column_of, entries_of}

-- channel k of a recording, with this entry, at row i
abbrev pub played : Recording → (i k : ℕ) → ChannelEntry → Channel
played r i k e = table_channel e.modulus e.bound (drop i (column_of r k))

-- the channels from k on, each at its own row
abbrev pub played_from : Recording → (rows : List ℕ) (k : ℕ) → List ChannelEntry → List Channel
played_from r rows k [] = []
played_from r rows k (e ∷ es) = played r (slice_index rows k) k e ∷ played_from r rows (suc k) es

-- what is there where there are few enough
abbrev pub if_few : {X : Type 0} → Bool → List X → List X
if_few true xs = xs
if_few false xs = []

-- the entries of a recording; none where there are more than 8
abbrev pub few_entries : Recording → List ChannelEntry
few_entries r = if_few (nat_le (length (entries_of r)) 8) (entries_of r)

-- the channels of the recording that is played, if one is
abbrev pub playback_channels : Option Recording → (rows : List ℕ) → List Channel
playback_channels None rows = []
playback_channels (Some r) rows = played_from r rows 0 (few_entries r)

-- rows xs and entries es are played from their beginning: each channel is the phase table over its column
pub record Plays (xs : List ℕ) (es : List ChannelEntry) (cs : List Channel) : Type 0 where
  pub as_many : length cs ≡ length es
  pub tables : (k : ℕ) (e : ChannelEntry) → slice_get es k ≡ Some e → channel_at k cs ≡ Some (table_channel e.modulus e.bound (column xs (length es) k))

-- what bytes play: those that record rows and entries play them, and those that the check refuses have no channel
pub record PlayedBytes (bs : List ℕ) (cs : List Channel) : Type 0 where
  pub recorded : (note xs : List ℕ) (es : List ChannelEntry) → Records bs note xs es → Plays xs es cs
  pub refused : (e : CheckRefusal) → CheckRefused bs e → cs ≡ []
