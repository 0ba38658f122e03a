-- What holds of a head that stands somewhere: after reads, and of the faults of a pile on it. Assumes nothing.
use Rattle.std.specs.Prelude.{ℕ, List, ℤ, Result}
use Rattle.std.specs.List.{AllByRecursion}
use Rattle.heads.specs.declared.faults.HeadFault.{HeadFault}
use Rattle.heads.specs.Channels.{Channel}
use Rattle.heads.specs.Laws.{Lawful}
use Rattle.heads.specs.Standing.{Stands}
use Rattle.layers.specs.Bursts.{FromBelow}
use Rattle.piles.specs.Piles.{Layer, pile, less}
use Rattle.piles.specs.Reads.{ReadsOn}

-- where a head stands, it stands once n entries were taken
abbrev pub LessStands : Type 0
LessStands = (c : Channel) (n : ℕ) (P : ℤ) → Stands c P → Stands (less n c) P

-- and after any reads
abbrev pub StandsOn : Type 0
StandsOn = (c d : Channel) (rs : List (Result ℕ HeadFault)) (P : ℤ) → ReadsOn c rs d → Stands c P → Stands d P

-- a pile makes no fault of its own, if its foot stands anywhere: each fault that waits in it waited in the foot
abbrev pub PilesSteady : Type 0
PilesSteady = (foot : Channel) (layers : List Layer) (P : ℤ) → Lawful foot.figures foot.waits → Stands foot P → AllByRecursion (FromBelow foot.waits) (pile foot layers).waits
