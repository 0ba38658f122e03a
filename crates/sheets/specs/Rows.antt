-- The bytes of the table that a recording is printed as. Assumes nothing.
use Rattle.std.specs.Prelude.{ℕ, zero, suc, ◌-◌, ◌/◌, ◌^◌, cond, List, [], ◌∷◌, ◌++◌, length, Some, None, codes, decimal, Option, ◌==◌}
use Rattle.std.specs.List.{flat_map, slice_get}
use Rattle.std.specs.Option.{option_map, unwrap_or}
use Rattle.recordings.specs.declared.entries.ChannelEntry.{ChannelEntry}
use Rattle.recordings.specs.Contents.{column}

-- a number of a row; a dash is the largest
abbrev pub word_of : Option ℕ → List ℕ
word_of None = []
word_of (Some n) = cond (n == 2 ^ 32 - 1) (codes "-") (decimal n)

-- what stands before the number of channel k
abbrev pub gap_of : ℕ → List ℕ
gap_of k = cond (k == 0) [] (32 ∷ [])

-- the first n numbers of row i, where a row has c: each is number i of its channel's column
abbrev pub cells : (xs : List ℕ) (c i n : ℕ) → List ℕ
cells xs c i zero = []
cells xs c i (suc k) = cells xs c i k ++ (gap_of k ++ word_of (slice_get (column xs c k) i))

-- the first n rows, each on a line
abbrev pub row_lines : (xs : List ℕ) (c n : ℕ) → List ℕ
row_lines xs c zero = []
row_lines xs c (suc i) = row_lines xs c i ++ (cells xs c i c ++ codes "\n")

abbrev pub modulus_of : ChannelEntry → ℕ
modulus_of e = e.modulus

abbrev pub bound_of : ChannelEntry → ℕ
bound_of e = e.bound

-- a figure of entry k, its modulus or its bound, and 0 where there is none
abbrev pub figure_at : (figure_of : ChannelEntry → ℕ) → List ChannelEntry → (k : ℕ) → ℕ
figure_at figure_of es k = unwrap_or (option_map figure_of (slice_get es k)) 0

-- a figure of each entry, each after a space
abbrev pub figure_words : (figure_of : ChannelEntry → ℕ) → List ChannelEntry → List ℕ
figure_words figure_of es = flat_map (λ e. 32 ∷ decimal (figure_of e)) es

-- the lines after the note: moduli, bounds, and the rows
abbrev pub table_of : (xs : List ℕ) (es : List ChannelEntry) → List ℕ
table_of xs es = codes "moduli" ++ (figure_words modulus_of es ++ (codes "\nbounds" ++ (figure_words bound_of es ++ (codes "\n" ++ row_lines xs (length es) (length xs / length es)))))
