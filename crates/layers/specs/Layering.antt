-- A layer over a head: its figures, and what waits in it. Assumes nothing.
use Rattle.std.specs.Prelude.{◌≡◌, ℕ, ◌+◌, ◌*◌, ◌%◌, Bool, true, false, ◌&&◌, List, map, Some, None, Option, nat_le, nat_lt}
use Rattle.heads.specs.declared.plates.Figures.{Figures}
use Rattle.heads.specs.Entries.{Entry, reading, faulty}
use Rattle.heads.specs.Figures.{fits, unfit, figures_of}
use Rattle.heads.specs.PhaseTables.{if_fit}

-- a layer is unfit over an unfit head, at a depth above 255, or where its own numbers are out of order
abbrev pub layer_fits : (proper : Bool) → Figures → Bool
layer_fits p f = f.fit && (p && nat_le (f.depth + 1) 255)

-- over an unfit head it tells that head's depth, and otherwise its own, one more
abbrev pub told_over : (below here : Bool) → (m t d : ℕ) → Figures
told_over false h m t d = unfit d
told_over true h m t d = figures_of h m t (d + 1)

abbrev pub layer_told : (proper : Bool) → (m t : ℕ) → Figures → Figures
layer_told p m t f = told_over f.fit (p && nat_le (f.depth + 1) 255) m t f.depth

-- with its own modulus and bound; with none, where its own numbers are out of order
abbrev pub layer_of : Option (ℕ × ℕ) → Figures → Figures
layer_of None f = layer_told false 1 0 f
layer_of (Some p) f = layer_told true p.0 p.1 f

-- a reading is turned, and a fault passes unchanged
abbrev pub turned : (ℕ → ℕ) → Entry → Entry
turned g (reading r) = reading (g r)
turned g (faulty k d a b) = faulty k d a b

-- zero z adds z round the modulus
abbrev pub zero_proper : (z : ℕ) → Figures → Bool
zero_proper z f = nat_lt z f.modulus

abbrev pub zero_told : (z : ℕ) → Figures → Figures
zero_told z f = layer_told (zero_proper z f) f.modulus f.bound f

abbrev pub zero_turns : (z m r : ℕ) → ℕ
zero_turns z m r = (r + z) % m

abbrev pub zero_waits : (z : ℕ) → Figures → List Entry → List Entry
zero_waits z f w = if_fit (layer_fits (zero_proper z f) f) (map (turned (zero_turns z f.modulus)) w)

-- gear s, w makes each reading s times as large, and its bound w wider
abbrev pub gear_proper : (s w : ℕ) → Figures → Bool
gear_proper s w f = nat_le 1 s && fits (f.modulus * s) (f.bound * s + w)

abbrev pub gear_told : (s w : ℕ) → Figures → Figures
gear_told s w f = layer_told (gear_proper s w f) (f.modulus * s) (f.bound * s + w) f

abbrev pub gear_waits : (s w : ℕ) → Figures → List Entry → List Entry
gear_waits s w f v = if_fit (layer_fits (gear_proper s w f) f) (map (turned (λ r. r * s)) v)

-- the modulus and the bound behind a gear, or nothing where they break a plate's limits
abbrev pub Geared : (s w : ℕ) → Figures → Option (ℕ × ℕ) → Type 0
Geared s w f None = gear_proper s w f ≡ false
Geared s w f (Some p) = (gear_proper s w f ≡ true) × (p.0 ≡ f.modulus * s) × (p.1 ≡ f.bound * s + w)
