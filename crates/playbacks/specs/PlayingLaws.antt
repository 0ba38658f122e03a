-- A recording that is played keeps the laws of a bank.
use Rattle.std.specs.Prelude.{ℕ, suc, List, [], ◌∷◌, drop, Some, None, Option, slice_index}
use Rattle.heads.specs.PhaseTableLaws.{table_lawful}
use Rattle.banks.specs.Banks.{AllLawful}
use Rattle.recordings.specs.declared.entries.ChannelEntry.{ChannelEntry}
use Rattle.recordings.specs.declared.recording.Recording.{Recording}
use Rattle.recordings.specs.Contents.{column_of}
use Rattle.playbacks.specs.Playing.{played_from, few_entries, playback_channels}

from_laws : (r : Recording) (rows : List ℕ) (k : ℕ) (es : List ChannelEntry) → AllLawful (played_from r rows k es)
from_laws r rows k [] = tt
from_laws r rows k (e ∷ es) = (table_lawful e.modulus e.bound (drop (slice_index rows k) (column_of r k)), from_laws r rows (suc k) es)

pub playback_laws : (o : Option Recording) (rows : List ℕ) → AllLawful (playback_channels o rows)
playback_laws None rows = tt
playback_laws (Some r) rows = from_laws r rows 0 (few_entries r)
