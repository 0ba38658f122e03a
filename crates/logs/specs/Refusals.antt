-- Each refusal's number and fields. Assumes nothing.
use Rattle.records.specs.declared.faults.Fault.{Fault}
use Rattle.logs.specs.declared.refusals.AppendRefusal.{AppendRefusal}
use Rattle.logs.specs.declared.refusals.AppendRefusal.TheVariants.{Full}

abbrev pub append_fault : AppendRefusal → Fault
append_fault Full = record { code = 18; channel = 0; depth = 0; first = 0; second = 0 }
