-- A fault record as text. Assumes nothing.
use Rattle.std.specs.Prelude.{ℕ, List, ◌++◌, codes, decimal}
use Rattle.records.specs.declared.faults.Fault.{Fault}

-- its number, channel and depth
abbrev pub fault_text : Fault → List ℕ
fault_text f = codes "refused " ++ (decimal f.code ++ (codes " channel " ++ (decimal f.channel ++ (codes " depth " ++ decimal f.depth))))
