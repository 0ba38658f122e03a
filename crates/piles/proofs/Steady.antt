-- A head that stands somewhere still does after reads, and a pile on it makes no fault of its own.
use Rattle.std.proofs.Common.{◌≡◌, ℕ, ◌*◌, ◌≤◌, Bool, true, false, List, [], ◌∷◌, map, ℤ, pos, ◌+ℤ◌, ◌-ℤ◌, ◌*ℤ◌, nat_abs, sym, refl, subst, arith}
use Rattle.std.specs.List.{ContainsAt, AllByRecursion}
use Rattle.std.proofs.ByRecursion.{All-drop, all-has, all_has_itself}
use Rattle.residues.proofs.Ring.{lin}
use Rattle.heads.specs.Channels.{Channel}
use Rattle.heads.specs.Entries.{Entry, reading, faulty}
use Rattle.heads.specs.Laws.{Lawful}
use Rattle.heads.specs.PhaseTables.{if_fit}
use Rattle.heads.specs.Standing.{Allowing, Stands}
use Rattle.layers.specs.Layering.{turned, zero_turns, zero_proper, gear_proper, layer_fits}
use Rattle.layers.specs.Bursts.{FromBelow}
use Rattle.layers.proofs.Steady.{burst_not_spread}
use Rattle.piles.specs.Piles.{Layer, zero_layer, gear_layer, burst_layer, laid, Carries, pile}
use Rattle.piles.specs.Steady.{LessStands, StandsOn, PilesSteady}
use Rattle.piles.proofs.Carried.{laid_lawful, laid_stands}
use Rattle.piles.proofs.Reading.{left}

pub less_stands : LessStands
less_stands c n P a = All-drop (Allowing c.figures.modulus c.figures.bound P) n c.waits a

pub stands_on : StandsOn
stands_on c d rs P h a = subst (λ (e : Channel). Stands e P) (sym (left c d rs h)) (less_stands c _ P a)

-- what waits is from below itself
from_itself : (whole w : List Entry) → AllByRecursion (ContainsAt whole) w → AllByRecursion (FromBelow whole) w
from_itself whole [] a = tt
from_itself whole (reading r ∷ w) a = (tt, from_itself whole w a.1)
from_itself whole (faulty k d x y ∷ w) a = (a.0, from_itself whole w a.1)

turned_from : (g : ℕ → ℕ) (whole w : List Entry) → AllByRecursion (FromBelow whole) w → AllByRecursion (FromBelow whole) (map (turned g) w)
turned_from g whole [] a = tt
turned_from g whole (reading r ∷ w) a = (tt, turned_from g whole w a.1)
turned_from g whole (faulty k d x y ∷ w) a = (a.0, turned_from g whole w a.1)

fit_from : (b : Bool) (whole w : List Entry) → AllByRecursion (FromBelow whole) w → AllByRecursion (FromBelow whole) (if_fit b w)
fit_from true whole w a = a
fit_from false whole w a = tt

all_from : (w : List Entry) → AllByRecursion (FromBelow w) w
all_from w = from_itself w w (all_has_itself w)

layer_from : (l : Layer) (c : Channel) (P : ℤ) → Lawful c.figures c.waits → Stands c P → AllByRecursion (FromBelow c.waits) (laid l c).waits
layer_from (zero_layer z) c P h a = fit_from (layer_fits (zero_proper z c.figures) c.figures) c.waits _ (turned_from (zero_turns z c.figures.modulus) c.waits c.waits (all_from c.waits))
layer_from (gear_layer s w) c P h a = fit_from (layer_fits (gear_proper s w c.figures) c.figures) c.waits _ (turned_from (λ r. r * s) c.waits c.waits (all_from c.waits))
layer_from (burst_layer b) c P h a = burst_not_spread b c h P a

-- from two heads further down
from_further : (u v w : List Entry) → AllByRecursion (FromBelow u) v → AllByRecursion (FromBelow v) w → AllByRecursion (FromBelow u) w
from_further u v [] a b = tt
from_further u v (reading r ∷ w) a b = (tt, from_further u v w a b.1)
from_further u v (faulty k d x y ∷ w) a b = (all-has (FromBelow u) v (faulty k d x y) a b.0, from_further u v w a b.1)

-- every layer carries a position somewhere
pub carries_on : (l : Layer) (P : ℤ) → (Q : ℤ) × Carries l P Q
carries_on (zero_layer z) P = (P +ℤ pos z, refl)
carries_on (gear_layer s w) P = (P *ℤ pos s, subst (λ (x : ℤ). nat_abs x ≤ w) (sym (none (P *ℤ pos s))) (omega arith))
  where
    none : (x : ℤ) → x -ℤ x ≡ pos 0
    none x = omega (arith, lin)
carries_on (burst_layer b) P = (P, refl)

pub piles_steady : PilesSteady
piles_steady foot [] P h a = all_from foot.waits
piles_steady foot (l ∷ ls) P h a =
    let (Q, k) = carries_on l P in
    from_further foot.waits (laid l foot).waits (pile (laid l foot) ls).waits (layer_from l foot P h a) (piles_steady (laid l foot) ls Q (laid_lawful l foot h) (laid_stands l foot P Q h a k))
