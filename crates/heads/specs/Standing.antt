-- What it means that a head stands at a position. Assumes nothing.
use Rattle.std.specs.Prelude.{ℕ, ℤ}
use Rattle.std.specs.List.{AllByRecursion}
use Rattle.residues.specs.Circle.{Allows}
use Rattle.heads.specs.Entries.{Entry, reading, faulty}
use Rattle.heads.specs.Channels.{Channel}

-- a waiting reading allows P; a fault says nothing of it
abbrev pub Allowing : (m t : ℕ) → ℤ → Entry → Type 0
Allowing m t P (reading r) = Allows m t r P
Allowing m t P (faulty k d a b) = Unit {0}

-- every waiting reading allows P
abbrev pub Stands : Channel → ℤ → Type 0
Stands c P = AllByRecursion (Allowing c.figures.modulus c.figures.bound P) c.waits

-- wherever `carries` takes a position at which `below` stands, `above` stands
abbrev pub Carried : (below above : Channel) (carries : ℤ → ℤ → Type 0) → Type 0
Carried below above carries = (P Q : ℤ) → Stands below P → carries P Q → Stands above Q
