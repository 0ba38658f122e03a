-- What a recording tells: its note, rows and entries, and the column of a channel. Assumes nothing.
use Rattle.std.specs.Prelude.{ℕ, zero, suc, ◌+◌, ◌*◌, ◌/◌, cond, List, [], ◌∷◌, length, None, Option, nat_lt, slice_index}
use Rattle.std.specs.List.{slice_get}
use Rattle.recordings.specs.declared.entries.ChannelEntry.{ChannelEntry}
use Rattle.recordings.specs.declared.recording.Recording.{Recording}
use Rattle.recordings.specs.Numbers.{number_from, numbers_in}

-- the entry whose first byte stands at place p
abbrev pub entry_from : List ℕ → (p : ℕ) → ChannelEntry
entry_from bs p = record { modulus = number_from bs p; bound = number_from bs (p + 4) }

-- numbers two by two: modulus, then bound
abbrev pub entries_in : List ℕ → List ChannelEntry
entries_in [] = []
entries_in (m ∷ []) = []
entries_in (m ∷ t ∷ xs) = record { modulus = m; bound = t } ∷ entries_in xs

abbrev pub note_of : Recording → List ℕ
note_of r = r.note.now

-- the numbers of all rows, row after row
abbrev pub rows_of : Recording → List ℕ
rows_of r = numbers_in r.rows.now

abbrev pub entries_of : Recording → List ChannelEntry
entries_of r = entries_in (numbers_in r.entries.now)

-- the numbers of channel k in n rows from row i on, where a row has c numbers
abbrev pub column_from : (xs : List ℕ) (c k i n : ℕ) → List ℕ
column_from xs c k i zero = []
column_from xs c k i (suc n) = slice_index xs (i * c + k) ∷ column_from xs c k (suc i) n

-- the numbers of channel k, from the first row to the last
abbrev pub column : (xs : List ℕ) (c k : ℕ) → List ℕ
column xs c k = column_from xs c k 0 (length xs / c)

abbrev pub column_of : Recording → (k : ℕ) → List ℕ
column_of r k = column (rows_of r) (length (entries_of r)) k

-- number i of column k; none past the last row, or where there is no such channel
abbrev pub number_told : Recording → (i k : ℕ) → Option ℕ
number_told r i k = cond (nat_lt k (length (entries_of r))) (slice_get (column_of r k) i) None
