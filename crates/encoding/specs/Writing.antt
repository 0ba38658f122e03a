-- What the writer answers, and what the buffer holds then. Assumes nothing.
use Rattle.std.specs.Prelude.{◌≡◌, ℕ, List, ◌++◌, length, take, drop, Ok, Err, Result}
use Rattle.std.specs.List.{AllByRecursion}
use Rattle.recordings.specs.declared.entries.ChannelEntry.{ChannelEntry}
use Rattle.recordings.specs.Layout.{encoded, EntryFits, Recordable}
use Rattle.recordings.specs.Laws.{IsReadBack}
use Rattle.encoding.specs.declared.refusals.WriteRefusal.{WriteRefusal}
use Rattle.encoding.specs.Refusals.{Counted, Whole, FitsIn, WriteRefused}

-- every check of the writer passes
pub record AllPass (room : ℕ) (note xs : List ℕ) (es : List ChannelEntry) : Type 0 where
  pub counted : Counted es
  pub whole : Whole xs es
  pub fit : AllByRecursion EntryFits es
  pub fits_in : FitsIn room note xs es

-- a buffer that held out holds out' once n bytes were written: the recording in front, and the old rest
pub record Writes (out note xs : List ℕ) (es : List ChannelEntry) (n : ℕ) (out' : List ℕ) : Type 0 where
  pub passes : AllPass (length out) note xs es
  pub recordable : Recordable note xs es
  pub length_is : n ≡ length (encoded note xs es)
  pub holds : out' ≡ encoded note xs es ++ drop n out
  pub read_back : IsReadBack (take n out') note xs es

-- written; or refused by the first check that fails, with the buffer as it was
abbrev pub Written : (out note xs : List ℕ) (es : List ChannelEntry) → Result ℕ WriteRefusal → (out' : List ℕ) → Type 0
Written out note xs es (Ok n) out' = Writes out note xs es n out'
Written out note xs es (Err e) out' = WriteRefused (length out) note xs es e × (out' ≡ out)
