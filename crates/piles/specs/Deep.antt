-- A head at any depth in which nothing waits, for the tests of a depth at its limit. Assumes nothing.
use Rattle.std.specs.Prelude.{ℕ, min, true, List, [], refl}
use Rattle.std.proofs.Common.{arith}
use Rattle.heads.specs.declared.plates.Figures.{Figures}
use Rattle.heads.specs.Entries.{Entry}
use Rattle.heads.specs.Figures.{figures_of}
use Rattle.heads.specs.Laws.{Lawful}
use Rattle.heads.specs.PhaseTableLaws.{figures_laws}

abbrev pub deep_told : (d : ℕ) → Figures
deep_told d = figures_of true 30 2 (min d 255)

abbrev pub deep_waits : List Entry
deep_waits = []

pub deep_laws : (d : ℕ) → Lawful (deep_told d) deep_waits
deep_laws d = record { plate = figures_laws true 30 2 (min d 255) (λ _. refl) (λ _. omega arith) (omega arith); unfit_empty = λ _. refl; below = tt }
