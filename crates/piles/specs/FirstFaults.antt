-- What each burst, and each entry of a pile, shows over a head that stands somewhere. Assumes nothing.
use Rattle.std.specs.Prelude.{◌≡◌, ℕ, ◌≤◌, List, [], ◌∷◌, length, take, drop, ℤ, Some, None}
use Rattle.heads.specs.Channels.{Channel}
use Rattle.heads.specs.Entries.{Entry, reading, faulty}
use Rattle.heads.specs.Laws.{Lawful}
use Rattle.heads.specs.Standing.{Stands}
use Rattle.layers.specs.Bursts.{first_fault, burst_over}
use Rattle.piles.specs.Piles.{Layer, pile}
use Rattle.piles.specs.Reads.{all_take}

-- one entry for several: the first fault among them, or a reading where there is none
abbrev pub FirstOf : List Entry → Entry → Type 0
FirstOf es (reading r) = first_fault es ≡ None
FirstOf es (faulty k d a b) = first_fault es ≡ Some (record { kind = k; depth = d; first = a; second = b })

-- each of these stands for the next b of w, which are there
abbrev pub EachFirstOf : (b : ℕ) → (w es : List Entry) → Type 0
EachFirstOf b w [] = Unit {0}
EachFirstOf b w (e ∷ es) = (b ≤ length w) × FirstOf (take b w) e × EachFirstOf b (drop b w) es

-- each burst over a head that stands anywhere is a reading, unless a fault is among its entries: then it is the first of them
abbrev pub BurstsSteady : Type 0
BurstsSteady = (b : ℕ) (c : Channel) (P : ℤ) → Lawful c.figures c.waits → Stands c P → EachFirstOf b c.waits (burst_over b c).waits

-- and each entry of a pile is the first fault among all the entries of its foot that it stands for, or a reading
abbrev pub PilesFirst : Type 0
PilesFirst = (foot : Channel) (layers : List Layer) (P : ℤ) → Lawful foot.figures foot.waits → Stands foot P → EachFirstOf (all_take layers) foot.waits (pile foot layers).waits
