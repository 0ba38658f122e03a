-- Each refusal's number and fields. Assumes nothing.
use Rattle.std.specs.Prelude.{ℕ}
use Rattle.records.specs.declared.faults.Fault.{Fault}
use Rattle.lines.specs.declared.refusals.FaultLineRefusal.{FaultLineRefusal}
use Rattle.lines.specs.declared.refusals.FaultLineRefusal.TheVariants as fault_line
use Rattle.lines.specs.declared.refusals.FixLineRefusal.{FixLineRefusal}
use Rattle.lines.specs.declared.refusals.FixLineRefusal.TheVariants as fix_line

-- the number; every other field is 0
abbrev pub only_numbered : (n : ℕ) → Fault
only_numbered n = record { code = n; channel = 0; depth = 0; first = 0; second = 0 }

abbrev pub fix_line_fault : FixLineRefusal → Fault
fix_line_fault fix_line.Outside = only_numbered 53
fix_line_fault fix_line.Short = only_numbered 52

abbrev pub fault_line_fault : FaultLineRefusal → Fault
fault_line_fault fault_line.Short = only_numbered 52
