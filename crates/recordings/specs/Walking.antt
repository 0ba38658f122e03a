-- What is still to come of entries, or of the numbers of a row, that are read one by one. Assumes nothing.
use Rattle.std.specs.Prelude.{ℕ, List}
use Rattle.recordings.specs.declared.entries.ChannelEntry.{ChannelEntry}
use Rattle.recordings.specs.declared.walking.Entries.{Entries}
use Rattle.recordings.specs.declared.rows.Numbers.{Numbers}
use Rattle.recordings.specs.Numbers.{numbers_in}
use Rattle.recordings.specs.Contents.{entries_in}

abbrev pub entries_left : Entries → List ChannelEntry
entries_left s = entries_in (numbers_in s.rest.now)

abbrev pub numbers_left : Numbers → List ℕ
numbers_left s = numbers_in s.rest.now
