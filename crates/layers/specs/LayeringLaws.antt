-- Layers keep the laws of a head. Assumes nothing.
use Rattle.std.proofs.Common.{arith, mod-lt, mul-lt-mul_of_pos_right, ltb-true, leb-true}
use Rattle.std.proofs.lemmas.Bool.{and_parts}
use Rattle.std.specs.Prelude.{◌≡◌, ℕ, ◌+◌, ◌*◌, ◌<◌, ◌≤◌, Bool, true, false, ◌&&◌, List, [], ◌∷◌, map, nat_le, refl}
use Rattle.heads.specs.declared.plates.Figures.{Figures}
use Rattle.heads.specs.Entries.{Entry, reading, faulty, AllBelow}
use Rattle.heads.specs.Figures.{fits}
use Rattle.heads.specs.Laws.{PlateLaws, HeadLaws, Lawful, head_laws}
use Rattle.heads.specs.PhaseTables.{if_fit}
use Rattle.heads.specs.PhaseTableLaws.{figures_laws}
use Rattle.layers.specs.Layering.{layer_told, told_over, turned, zero_proper, zero_told, zero_turns, zero_waits, gear_proper, gear_told, gear_waits}

-- the plate's limits, of what a layer tells
pub layer_plate : (p : Bool) (m t : ℕ) (f : Figures) (fit : Bool) → f.fit ≡ fit → (fit ≡ true → p ≡ true → fits m t ≡ true) → PlateLaws f → PlateLaws (layer_told p m t f)
layer_plate p m t f true e h l =
    rw e (figures_laws (p && nat_le (f.depth + 1) 255) m t (f.depth + 1) (λ x. h refl ((and_parts p _ x).0)) (λ x. leb-true (f.depth + 1) 255 (and_parts p _ x).1) (omega (arith, l.fit_depth e)))
layer_plate p m t f false e h l = rw e (figures_laws false 1 0 f.depth (λ x. refl) (λ x. cc) (l.unfit_depth e))

-- a layer that tells it is unfit has nothing waiting
pub layer_empty : (b h : Bool) (m t d : ℕ) (w : List Entry) → (told_over b h m t d).fit ≡ false → if_fit (b && h) w ≡ []
layer_empty true true m t d w e = cc
layer_empty true false m t d w e = refl
layer_empty false h m t d w e = refl

-- and what waits in a fit one is below the modulus that it tells
pub layer_below : (b h : Bool) (m t d : ℕ) (w : List Entry) → (b ≡ true → h ≡ true → AllBelow m w) → AllBelow (told_over b h m t d).modulus (if_fit (b && h) w)
layer_below true true m t d w k = k refl refl
layer_below true false m t d w k = tt
layer_below false h m t d w k = tt

turned_below : (g : ℕ → ℕ) (m n : ℕ) (w : List Entry) → ((r : ℕ) → r < m → g r < n) → AllBelow m w → AllBelow n (map (turned g) w)
turned_below g m n [] h a = tt
turned_below g m n (reading r ∷ w) h a = (h r a.0, turned_below g m n w h a.1)
turned_below g m n (faulty k d x y ∷ w) h a = (tt, turned_below g m n w h a.1)

module _ (f : Figures) (w : List Entry) (plate : PlateLaws f) (below : AllBelow f.modulus w) where
  pub zero_lawful : (z : ℕ) → Lawful (zero_told z f) (zero_waits z f w)
  zero_lawful z = record {
    plate = layer_plate (zero_proper z f) f.modulus f.bound f f.fit refl (λ e _. plate.fit_limits e) plate;
    unfit_empty = layer_empty f.fit (zero_proper z f && nat_le (f.depth + 1) 255) f.modulus f.bound f.depth (map (turned (zero_turns z f.modulus)) w);
    below = layer_below f.fit (zero_proper z f && nat_le (f.depth + 1) 255) f.modulus f.bound f.depth (map (turned (zero_turns z f.modulus)) w)
        (λ _ p. let l : z < f.modulus = ltb-true z f.modulus (and_parts _ (nat_le (f.depth + 1) 255) p).0 in
        turned_below (zero_turns z f.modulus) f.modulus f.modulus w (λ r _. mod-lt (r + z) (omega arith)) below);
  }

  pub gear_lawful : (a b : ℕ) → Lawful (gear_told a b f) (gear_waits a b f w)
  gear_lawful a b = record {
    plate = layer_plate (gear_proper a b f) (f.modulus * a) (f.bound * a + b) f f.fit refl (λ _ p. (and_parts (nat_le 1 a) _ p).1) plate;
    unfit_empty = layer_empty f.fit (gear_proper a b f && nat_le (f.depth + 1) 255) (f.modulus * a) (f.bound * a + b) f.depth (map (turned (λ r. r * a)) w);
    below = layer_below f.fit (gear_proper a b f && nat_le (f.depth + 1) 255) (f.modulus * a) (f.bound * a + b) f.depth (map (turned (λ r. r * a)) w)
        (λ _ p. let l : 1 ≤ a = leb-true 1 a (and_parts (nat_le 1 a) _ (and_parts _ (nat_le (f.depth + 1) 255) p).0).0 in
        turned_below (λ r. r * a) f.modulus (f.modulus * a) w (λ r h. mul-lt-mul_of_pos_right h l) below);
  }

module _ {S : Type 0} (f : S → Figures) (w : S → List Entry) (plate : (s : S) → PlateLaws (f s)) (below : (s : S) → AllBelow (f s).modulus (w s)) where
  pub zero_laws : (z : S → ℕ) → HeadLaws (λ s. zero_told (z s) (f s)) (λ s. zero_waits (z s) (f s) (w s))
  zero_laws z = head_laws _ _ (λ s. zero_lawful (f s) (w s) (plate s) (below s) (z s))

  pub gear_laws : (a b : S → ℕ) → HeadLaws (λ s. gear_told (a s) (b s) (f s)) (λ s. gear_waits (a s) (b s) (f s) (w s))
  gear_laws a b = head_laws _ _ (λ s. gear_lawful (f s) (w s) (plate s) (below s) (a s) (b s))
