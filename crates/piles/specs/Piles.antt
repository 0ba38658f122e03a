-- Piles: any layers in turn over any foot, and where they carry a position. Assumes nothing.
use Rattle.std.specs.Prelude.{◌≡◌, ℕ, ◌*◌, List, [], ◌∷◌, drop, ℤ}
use Rattle.heads.specs.Channels.{Channel, channel_of}
use Rattle.heads.specs.Laws.{Lawful}
use Rattle.heads.specs.Standing.{Stands}
use Rattle.layers.specs.Bursts.{burst_over, BurstCarries}
use Rattle.layers.specs.Carrying.{zero_over, gear_over, ZeroCarries, GearCarries}

-- a layer by its numbers
pub data Layer : Type 0 where
  zero_layer : (z : ℕ) → Layer
  gear_layer : (s w : ℕ) → Layer
  burst_layer : (b : ℕ) → Layer

-- the layer over a channel's meaning
abbrev pub laid : Layer → Channel → Channel
laid (zero_layer z) c = zero_over z c
laid (gear_layer s w) c = gear_over s w c
laid (burst_layer b) c = burst_over b c

-- the layer carries P to Q
abbrev pub Carries : Layer → (P Q : ℤ) → Type 0
Carries (zero_layer z) P Q = ZeroCarries z P Q
Carries (gear_layer s w) P Q = GearCarries s w P Q
Carries (burst_layer b) P Q = BurstCarries P Q

-- a foot and its layers, the lowest first
abbrev pub pile : Channel → List Layer → Channel
pile c [] = c
pile c (l ∷ ls) = pile (laid l c) ls

-- the layers carry P to Q in turn
abbrev pub Carry : List Layer → (P Q : ℤ) → Type 0
Carry [] P Q = Q ≡ P
Carry (l ∷ ls) P Q = (X : ℤ) × Carries l P X × Carry ls X Q

-- any pile over any head keeps the laws of a head
abbrev pub PilesLawful : Type 0
PilesLawful = (foot : Channel) (layers : List Layer) → Lawful foot.figures foot.waits → Lawful (pile foot layers).figures (pile foot layers).waits

-- where the foot stands at P and the layers carry P to Q, the pile stands at Q
abbrev pub PilesStand : Type 0
PilesStand = (foot : Channel) (layers : List Layer) (P Q : ℤ) → Lawful foot.figures foot.waits → Stands foot P → Carry layers P Q → Stands (pile foot layers) Q

-- how many entries below one read of a layer takes
abbrev pub takes : Layer → ℕ
takes (zero_layer z) = 1
takes (gear_layer s w) = 1
takes (burst_layer b) = b

-- a channel once n entries were taken from it
abbrev pub less : (n : ℕ) → Channel → Channel
less n c = channel_of c.figures (drop n c.waits)

-- after n reads a layer is the layer over what it stands on, less the entries of n reads
abbrev pub LayersAdvance : Type 0
LayersAdvance = (l : Layer) (c : Channel) (n : ℕ) → less n (laid l c) ≡ laid l (less (n * takes l) c)
