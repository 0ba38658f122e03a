-- The laws of recordings: what is refused is none, none has two meanings, and each is read back. Assumes nothing.
use Rattle.std.specs.Prelude.{◌≡◌, ℕ, List, Ok, Err, Result}
use Rattle.recordings.specs.declared.entries.ChannelEntry.{ChannelEntry}
use Rattle.recordings.specs.declared.recording.Recording.{Recording}
use Rattle.recordings.specs.declared.refusals.CheckRefusal.{CheckRefusal}
use Rattle.recordings.specs.Layout.{Records}
use Rattle.recordings.specs.Contents.{note_of, rows_of, entries_of}
use Rattle.recordings.specs.Refusals.{CheckRefused, Checked}

-- bytes with a check that fails are no recording of anything
abbrev pub RefusedRecordsNothing : Type 0
RefusedRecordsNothing = (bs note xs : List ℕ) (es : List ChannelEntry) (e : CheckRefusal) → CheckRefused bs e → Records bs note xs es → ⊥

-- no bytes have two first checks that fail
abbrev pub OneRefusal : Type 0
OneRefusal = (bs : List ℕ) (e f : CheckRefusal) → CheckRefused bs e → CheckRefused bs f → e ≡ f

-- the same note, the same rows, the same entries
pub record Same (note note' xs xs' : List ℕ) (es es' : List ChannelEntry) : Type 0 where
  pub note_same : note ≡ note'
  pub rows_same : xs ≡ xs'
  pub entries_same : es ≡ es'

-- bytes are the recording of at most one note, one list of rows and one list of entries
abbrev pub RecordsOne : Type 0
RecordsOne = (bs note note' xs xs' : List ℕ) (es es' : List ChannelEntry) → Records bs note xs es → Records bs note' xs' es' → Same note note' xs xs' es es'

-- an answer of the check that tells just this note, these rows and these entries
abbrev pub Tells : Result Recording CheckRefusal → (note xs : List ℕ) (es : List ChannelEntry) → Type 0
Tells (Ok r) note xs es = Same (note_of r) note (rows_of r) xs (entries_of r) es
Tells (Err e) note xs es = ⊥

-- whatever the check may answer of a recording tells what was recorded
abbrev pub IsReadBack : (bs note xs : List ℕ) (es : List ChannelEntry) → Type 0
IsReadBack bs note xs es = (r : Result Recording CheckRefusal) → Checked bs r → Tells r note xs es
