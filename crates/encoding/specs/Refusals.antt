-- Each refusal's number and fields, and when it is the answer. Assumes nothing.
use Rattle.std.specs.Prelude.{◌≡◌, ℕ, ◌%◌, ◌^◌, ◌<◌, ◌≤◌, List, length, slice_index_or}
use Rattle.std.specs.List.{AllByRecursion}
use Rattle.records.specs.declared.faults.Fault.{Fault}
use Rattle.recordings.specs.declared.entries.ChannelEntry.{ChannelEntry}
use Rattle.recordings.specs.Layout.{encoded, EntryFits}
use Rattle.encoding.specs.declared.refusals.WriteRefusal.{WriteRefusal}
use Rattle.encoding.specs.declared.refusals.WriteRefusal.TheVariants.{Channels, Rows, UnfitEntry, Room}

-- number and channel; the depth and the two figures are 0
abbrev numbered : (n k : ℕ) → Fault
numbered n k = record { code = n; channel = k; depth = 0; first = 0; second = 0 }

abbrev pub write_fault : WriteRefusal → Fault
write_fault Channels = numbered 47 0
write_fault Rows = numbered 42 0
write_fault (UnfitEntry k) = numbered 43 k
write_fault Room = numbered 44 0

-- 1 to 8 entries
pub record Counted (es : List ChannelEntry) : Type 0 where
  pub some : 1 ≤ length es
  pub few : length es ≤ 8

-- the count of numbers is a multiple of the count of entries
abbrev pub Whole : (xs : List ℕ) (es : List ChannelEntry) → Type 0
Whole xs es = length xs % length es ≡ 0

-- channel k's entry is fit
abbrev pub FitAt : (es : List ChannelEntry) (k : ℕ) → Type 0
FitAt es k = EntryFits (slice_index_or es k (record { modulus = 0; bound = 0 }))

-- k is the lowest channel whose entry is unfit
pub record UnfitFirst (es : List ChannelEntry) (k : ℕ) : Type 0 where
  pub within : k < length es
  pub fit_before : (i : ℕ) → i < k → FitAt es i
  pub unfit : FitAt es k → ⊥

-- the recording takes no more bytes than there is room for, nor than 2^31
pub record FitsIn (room : ℕ) (note xs : List ℕ) (es : List ChannelEntry) : Type 0 where
  pub in_room : length (encoded note xs es) ≤ room
  pub in_limit : length (encoded note xs es) ≤ 2 ^ 31

-- the first check that fails
abbrev pub WriteRefused : (room : ℕ) (note xs : List ℕ) (es : List ChannelEntry) → WriteRefusal → Type 0
WriteRefused room note xs es Channels = Counted es → ⊥
WriteRefused room note xs es Rows = Counted es × (Whole xs es → ⊥)
WriteRefused room note xs es (UnfitEntry k) = Counted es × Whole xs es × UnfitFirst es k
WriteRefused room note xs es Room = Counted es × Whole xs es × AllByRecursion EntryFits es × (FitsIn room note xs es → ⊥)
