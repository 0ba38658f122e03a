-- A pile keeps the laws of a head, and stands where its layers carry what its foot stands at.
use Rattle.std.proofs.Common.{[], ◌∷◌, ℤ, sym, subst}
use Rattle.heads.specs.Channels.{Channel}
use Rattle.heads.specs.Laws.{Lawful}
use Rattle.heads.specs.Standing.{Stands}
use Rattle.layers.specs.BurstLaws.{burst_lawful}
use Rattle.layers.specs.LayeringLaws.{zero_lawful, gear_lawful}
use Rattle.layers.proofs.Standing.{zero_stands, gear_stands}
use Rattle.layers.proofs.Steady.{burst_stands}
use Rattle.piles.specs.Piles.{Layer, zero_layer, gear_layer, burst_layer, laid, Carries, PilesLawful, PilesStand}

pub laid_lawful : (l : Layer) (c : Channel) → Lawful c.figures c.waits → Lawful (laid l c).figures (laid l c).waits
laid_lawful (zero_layer z) c h = zero_lawful c.figures c.waits h.plate h.below z
laid_lawful (gear_layer s w) c h = gear_lawful c.figures c.waits h.plate h.below s w
laid_lawful (burst_layer b) c h = burst_lawful c.figures c.waits h b

pub laid_stands : (l : Layer) (c : Channel) (P Q : ℤ) → Lawful c.figures c.waits → Stands c P → Carries l P Q → Stands (laid l c) Q
laid_stands (zero_layer z) c P Q h a k = zero_stands z c P Q a k
laid_stands (gear_layer s w) c P Q h a k = gear_stands s w c P Q a k
laid_stands (burst_layer b) c P Q h a k = burst_stands b c h P Q a k

pub piles_lawful : PilesLawful
piles_lawful foot [] h = h
piles_lawful foot (l ∷ ls) h = piles_lawful (laid l foot) ls (laid_lawful l foot h)

pub piles_stand : PilesStand
piles_stand foot [] P Q h a e = subst (Stands foot) (sym e) a
piles_stand foot (l ∷ ls) P Q h a (X, k, more) = piles_stand (laid l foot) ls X Q (laid_lawful l foot h) (laid_stands l foot P X h a k) more
