-- A phase table: its figures and what waits in it. Assumes nothing.
use Rattle.std.specs.Prelude.{ℕ, Bool, true, false, cond, List, [], map, ◌==◌, nat_lt}
use Rattle.heads.specs.declared.plates.Figures.{Figures}
use Rattle.heads.specs.Entries.{Entry, reading, faulty, dark, wild}
use Rattle.heads.specs.Channels.{Channel, channel_of}
use Rattle.heads.specs.Figures.{fits, figures_of}

-- a number of a table of modulus m: 4,294,967,295 is dark, any other not below m wild, the rest are readings
abbrev pub entry_of : (m x : ℕ) → Entry
entry_of m x = cond (x == 4294967295) (faulty dark 0 0 0) (cond (nat_lt x m) (reading x) (faulty wild 0 x m))

-- what waits where something is fit
abbrev pub if_fit : Bool → List Entry → List Entry
if_fit true w = w
if_fit false w = []

abbrev pub table_told : (m t : ℕ) → Figures
table_told m t = figures_of (fits m t) m t 0

abbrev pub table_waits : (m t : ℕ) → List ℕ → List Entry
table_waits m t xs = if_fit (fits m t) (map (entry_of m) xs)

-- the table over these numbers
abbrev pub table_channel : (m t : ℕ) → List ℕ → Channel
table_channel m t xs = channel_of (table_told m t) (table_waits m t xs)
