-- What printing a line answers, and what the buffer then holds. Assumes nothing.
use Rattle.std.specs.Prelude.{◌≡◌, ℕ, ◌<◌, ◌≤◌, List, ◌++◌, length, drop, Ok, Err, Result}
use Rattle.records.specs.declared.faults.Fault.{Fault}
use Rattle.records.specs.declared.fixes.Fix.{Fix}
use Rattle.settings.specs.Settings.{FromTo}
use Rattle.lines.specs.Lines.{fix_line, fault_line}
use Rattle.lines.specs.declared.refusals.FaultLineRefusal.{FaultLineRefusal}
use Rattle.lines.specs.declared.refusals.FaultLineRefusal.TheVariants as OfFault
use Rattle.lines.specs.declared.refusals.FixLineRefusal.{FixLineRefusal}
use Rattle.lines.specs.declared.refusals.FixLineRefusal.TheVariants as OfFix

-- a fix of a setting with this range
pub record FixWithin (range : ℕ) (f : Fix) : Type 0 where
  pub start_below : f.start < range
  pub count_fits : FromTo 1 range f.count
  pub mean_below : f.mean < range

-- the line stands at the front of the buffer, the rest is left, and n is the line's length
pub record InFront (line before after : List ℕ) (n : ℕ) : Type 0 where
  pub long : n ≡ length line
  pub fits : n ≤ length before
  pub front : after ≡ line ++ drop n before

-- the buffer is too short for the line, and is left as it was
pub record IsTooShort (line before after : List ℕ) : Type 0 where
  pub short : length before < length line
  pub left : after ≡ before

abbrev pub FixPrinted : (range : ℕ) (f : Fix) (before : List ℕ) → Result ℕ FixLineRefusal → (after : List ℕ) → Type 0
FixPrinted range f before (Ok n) after = FixWithin range f × InFront (fix_line f) before after n
FixPrinted range f before (Err OfFix.Outside) after = (FixWithin range f → ⊥) × (after ≡ before)
FixPrinted range f before (Err OfFix.Short) after = FixWithin range f × IsTooShort (fix_line f) before after

abbrev pub FaultPrinted : (f : Fault) (before : List ℕ) → Result ℕ FaultLineRefusal → (after : List ℕ) → Type 0
FaultPrinted f before (Ok n) after = InFront (fault_line f) before after n
FaultPrinted f before (Err OfFault.Short) after = IsTooShort (fault_line f) before after
