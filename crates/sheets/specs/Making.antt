-- The recording of a sheet. Assumes nothing.
use Rattle.std.specs.Prelude.{◌≡◌, ℕ, ◌^◌, List, map, vec_items}
use Rattle.std.specs.List.{zip}
use Rattle.recordings.specs.declared.entries.ChannelEntry.{ChannelEntry}
use Rattle.recordings.specs.Laws.{IsReadBack}
use Rattle.recordings.specs.Layout.{encoded}
use Rattle.encoding.specs.Refusals.{WriteRefused}
use Rattle.sheets.specs.declared.lines.Sheet.{Sheet}
use Rattle.sheets.specs.declared.making.RecordError.{RecordError}
use Rattle.sheets.specs.declared.making.RecordError.TheVariants.{Refused, NoMemory}

-- each modulus with its bound; what has no partner is left out
abbrev pub paired : (ms bs : List ℕ) → List ChannelEntry
paired ms bs = map (λ p. record { modulus = p.0; bound = p.1 }) (zip ms bs)

abbrev pub entries_of_table : Sheet → List ChannelEntry
entries_of_table s = paired (vec_items s.moduli) (vec_items s.bounds)

-- these bytes are the recording of a note, rows and entries, and are read back as such
pub record Encodes (note xs : List ℕ) (es : List ChannelEntry) (bytes : List ℕ) : Type 0 where
  pub bytes_are : bytes ≡ encoded note xs es
  pub read_back : IsReadBack bytes note xs es

-- the first of the writer's checks that fails when it has all the room there may be, or a want of memory
abbrev pub NotEncoded : (note xs : List ℕ) (es : List ChannelEntry) → RecordError → Type 0
NotEncoded note xs es (Refused e) = WriteRefused (2 ^ 31) note xs es e
NotEncoded note xs es NoMemory = Unit {0}
