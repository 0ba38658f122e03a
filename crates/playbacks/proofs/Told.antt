-- The numbers of a channel's column, as a recording tells them.
use Rattle.std.proofs.Common.{◌≡◌, ℕ, ◌<◌, length, get_or, Some, None, sym, refl, ◌∙◌}
use Rattle.std.specs.List.{slice_get}
use Rattle.std.proofs.lemmas.Option.{get_or_from_slice_get, none-some, slice_get-get_or, slice_get_within}
use Rattle.std.proofs.lemmas.Bool.{lt-ltb}
use Rattle.recordings.specs.declared.entries.ChannelEntry.{ChannelEntry}
use Rattle.recordings.specs.declared.recording.Recording.{Recording}
use Rattle.recordings.specs.Contents.{column_of, entries_of, number_told}

-- of a channel that the recording has
module _ (r : Recording) (k i : ℕ) (e : ChannelEntry) (h : slice_get (entries_of r) k ≡ Some e) where
  number_there : number_told r i k ≡ slice_get (column_of r k) i
  number_there = rw (lt-ltb k (length (entries_of r)) (slice_get_within (entries_of r) k e h)) refl

  -- so what it told is that number
  pub number_is : (x : ℕ) → i < length (column_of r k) → number_told r i k ≡ Some x → x ≡ get_or (column_of r k) i 0
  number_is x l q = sym (get_or_from_slice_get (column_of r k) i x 0 (sym number_there ∙ q))

  pub number_not_none : i < length (column_of r k) → number_told r i k ≡ None → ⊥
  number_not_none l q = none-some _ (sym q ∙ number_there ∙ slice_get-get_or (column_of r k) i 0 l)
