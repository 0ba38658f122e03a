-- What waits in a head. Assumes nothing.
use Rattle.std.specs.Prelude.{ℕ, ◌<◌, List, [], ◌∷◌}

-- no signal; a number that is no reading; readings too far apart
pub data Kind : Type 0 where
  dark wild spread : Kind

-- a reading, or a fault with the depth where it arose and two figures
pub data Entry : Type 0 where
  reading : ℕ → Entry
  faulty : Kind → (depth first second : ℕ) → Entry

-- a reading is below m
abbrev pub Below : (m : ℕ) → Entry → Type 0
Below m (reading r) = r < m
Below m (faulty k d a b) = Unit {0}

abbrev pub AllBelow : (m : ℕ) → List Entry → Type 0
AllBelow m [] = Unit {0}
AllBelow m (e ∷ w) = Below m e × AllBelow m w
