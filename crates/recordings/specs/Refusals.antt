-- Each refusal's number and fields, and when it is the answer. Assumes nothing.
use Rattle.std.specs.Prelude.{◌≡◌, ℕ, Bool, not, ◌+◌, ◌-◌, ◌*◌, ◌<◌, ◌≤◌, List, length, take, drop, Ok, Err, Result, ◌≢◌}
use Rattle.records.specs.declared.faults.Fault.{Fault}
use Rattle.heads.specs.Figures.{fits}
use Rattle.recordings.specs.declared.entries.ChannelEntry.{ChannelEntry}
use Rattle.recordings.specs.declared.recording.Recording.{Recording}
use Rattle.recordings.specs.declared.refusals.CheckRefusal.{CheckRefusal}
use Rattle.recordings.specs.declared.refusals.CheckRefusal.TheVariants.{TooShort, Edition, Channels, Places, UnfitEntry}
use Rattle.recordings.specs.Numbers.{number_from}
use Rattle.recordings.specs.Layout.{EntryFits, Records}
use Rattle.recordings.specs.Contents.{entry_from, note_of, rows_of, entries_of}

-- number and channel; the depth and the two figures are 0
abbrev numbered : (n k : ℕ) → Fault
numbered n k = record { code = n; channel = k; depth = 0; first = 0; second = 0 }

abbrev pub check_fault : CheckRefusal → Fault
check_fault TooShort = numbered 45 0
check_fault Edition = numbered 46 0
check_fault Channels = numbered 47 0
check_fault Places = numbered 48 0
check_fault (UnfitEntry k) = numbered 43 k

-- the last four numbers of bytes
abbrev pub place_in : List ℕ → ℕ
place_in bs = number_from bs (length bs - 16)

abbrev pub row_count_in : List ℕ → ℕ
row_count_in bs = number_from bs (length bs - 12)

abbrev pub channel_count_in : List ℕ → ℕ
channel_count_in bs = number_from bs (length bs - 8)

abbrev pub edition_in : List ℕ → ℕ
edition_in bs = number_from bs (length bs - 4)

-- the entries end where the ending begins, and the rows fit before them
pub record PlacesAgree (bs : List ℕ) : Type 0 where
  pub ends : place_in bs + 8 * channel_count_in bs + 16 ≡ length bs
  pub rows_fit : 4 * (row_count_in bs * channel_count_in bs) ≤ place_in bs

-- the entry whose first byte stands at place p is fit
abbrev pub FitsFrom : (bs : List ℕ) (p : ℕ) → Type 0
FitsFrom bs p = EntryFits (entry_from bs p)

-- an entry beyond the limits of a plate
abbrev pub unfit : ChannelEntry → Bool
unfit e = not (fits e.modulus e.bound)

-- k is the lowest of c channels whose entry, from place p on, is unfit
pub record UnfitFirst (bs : List ℕ) (p c k : ℕ) : Type 0 where
  pub within : k < c
  pub fit_before : (i : ℕ) → i < k → FitsFrom bs (p + 8 * i)
  pub unfit : FitsFrom bs (p + 8 * k) → ⊥

-- the first two checks pass
pub record OfEdition (bs : List ℕ) : Type 0 where
  pub long : 16 ≤ length bs
  pub edition_is : edition_in bs ≡ 1

-- and the third: 1 to 8 channels
pub record Counted (bs : List ℕ) : Type 0 where
  pub of_edition : OfEdition bs
  pub some : 1 ≤ channel_count_in bs
  pub few : channel_count_in bs ≤ 8

-- the first check that fails
abbrev pub CheckRefused : (bs : List ℕ) → CheckRefusal → Type 0
CheckRefused bs TooShort = length bs < 16
CheckRefused bs Edition = (16 ≤ length bs) × (edition_in bs ≢ 1)
CheckRefused bs Channels = OfEdition bs × (1 ≤ channel_count_in bs → channel_count_in bs ≤ 8 → ⊥)
CheckRefused bs Places = Counted bs × (PlacesAgree bs → ⊥)
CheckRefused bs (UnfitEntry k) = Counted bs × PlacesAgree bs × UnfitFirst bs (place_in bs) (channel_count_in bs) k

-- where the rows begin
abbrev pub rows_place_in : List ℕ → ℕ
rows_place_in bs = place_in bs - 4 * (row_count_in bs * channel_count_in bs)

-- bytes whose places agree, cut where the rows and the entries begin and end
pub record IsCut (bs : List ℕ) (r : Recording) : Type 0 where
  pub counted : Counted bs
  pub agree : PlacesAgree bs
  pub note_is : r.note.now ≡ take (rows_place_in bs) bs
  pub rows_are : r.rows.now ≡ take (place_in bs - rows_place_in bs) (drop (rows_place_in bs) bs)
  pub entries_are : r.entries.now ≡ take (8 * channel_count_in bs) (drop (place_in bs) bs)

-- what the check answers: the note, rows and entries that the bytes record, or the first check that fails
abbrev pub Checked : (bs : List ℕ) → Result Recording CheckRefusal → Type 0
Checked bs (Ok r) = Records bs (note_of r) (rows_of r) (entries_of r)
Checked bs (Err e) = CheckRefused bs e
