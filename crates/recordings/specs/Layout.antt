-- The layout of a recording: the bytes of a note, rows and entries. Assumes nothing.
use Rattle.std.specs.Prelude.{◌≡◌, ℕ, ◌+◌, ◌*◌, ◌/◌, ◌^◌, ◌<◌, ◌≤◌, true, List, [], ◌∷◌, ◌++◌, length}
use Rattle.std.specs.List.{flat_map, AllByRecursion}
use Rattle.heads.specs.Figures.{fits}
use Rattle.recordings.specs.declared.entries.ChannelEntry.{ChannelEntry}
use Rattle.recordings.specs.Numbers.{bytes_of}

-- an entry's numbers: modulus, then bound
abbrev pub pair_of : ChannelEntry → List ℕ
pair_of e = e.modulus ∷ e.bound ∷ []

abbrev pub EntryFits : ChannelEntry → Type 0
EntryFits e = fits e.modulus e.bound ≡ true

-- where the rows end and the entries begin; xs are the numbers of all rows, row after row
abbrev pub place_of : (note xs : List ℕ) → ℕ
place_of note xs = length note + 4 * length xs

-- the last four numbers: the place of the entries, the count of rows, the count of channels, the edition
abbrev pub ending : (note xs : List ℕ) (es : List ChannelEntry) → List ℕ
ending note xs es = place_of note xs ∷ length xs / length es ∷ length es ∷ 1 ∷ []

-- the note, and then nothing but numbers: the rows, the entries and the ending
abbrev pub encoded : (note xs : List ℕ) (es : List ChannelEntry) → List ℕ
encoded note xs es = note ++ flat_map bytes_of (xs ++ (flat_map pair_of es ++ ending note xs es))

-- a note, rows and entries that a recording may have
pub record Recordable (note xs : List ℕ) (es : List ChannelEntry) : Type 0 where
  pub some : 1 ≤ length es
  pub few : length es ≤ 8
  pub whole : length xs ≡ length xs / length es * length es
  pub small : AllByRecursion (λ x. x < 2 ^ 32) xs
  pub fit : AllByRecursion EntryFits es
  pub reached : place_of note xs < 2 ^ 32

-- these bytes are the recording of this note, these rows and these entries
pub record Records (bs note xs : List ℕ) (es : List ChannelEntry) : Type 0 where
  pub recordable : Recordable note xs es
  pub bytes_are : bs ≡ encoded note xs es
