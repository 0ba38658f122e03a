-- What holds of every head. Assumes nothing.
use Rattle.std.specs.Prelude.{◌≡◌, ◌≤◌, true, false, List, []}
use Rattle.heads.specs.declared.plates.Figures.{Figures}
use Rattle.heads.specs.Entries.{Entry, AllBelow}
use Rattle.heads.specs.Figures.{fits}

-- what a plate may tell: fit with its numbers in their limits, or unfit with modulus 1 and bound 0
pub record PlateLaws (f : Figures) : Type 0 where
  pub fit_limits : f.fit ≡ true → fits f.modulus f.bound ≡ true
  pub fit_depth : f.fit ≡ true → f.depth ≤ 255
  pub unfit_modulus : f.fit ≡ false → f.modulus ≡ 1
  pub unfit_bound : f.fit ≡ false → f.bound ≡ 0
  pub unfit_depth : f.fit ≡ false → f.depth ≤ 256

-- an unfit head has nothing waiting, and every waiting reading is below the modulus
pub record HeadLaws {S : Type 0} (shape : S → Figures) (waiting : S → List Entry) : Type 0 where
  pub plate : (s : S) → PlateLaws (shape s)
  pub unfit_empty : (s : S) → (shape s).fit ≡ false → waiting s ≡ []
  pub below : (s : S) → AllBelow (shape s).modulus (waiting s)

-- the same of one head, of figures f, in which w waits
pub record Lawful (f : Figures) (w : List Entry) : Type 0 where
  pub plate : PlateLaws f
  pub unfit_empty : f.fit ≡ false → w ≡ []
  pub below : AllBelow f.modulus w

pub head_laws : {S : Type 0} (shape : S → Figures) (waiting : S → List Entry) → ((s : S) → Lawful (shape s) (waiting s)) → HeadLaws shape waiting
head_laws shape waiting l = record { plate = λ s. (l s).plate; unfit_empty = λ s. (l s).unfit_empty; below = λ s. (l s).below }

pub lawful : {S : Type 0} {shape : S → Figures} {waiting : S → List Entry} → HeadLaws shape waiting → (s : S) → Lawful (shape s) (waiting s)
lawful l s = record { plate = l.plate s; unfit_empty = l.unfit_empty s; below = l.below s }
