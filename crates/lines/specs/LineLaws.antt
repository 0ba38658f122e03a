-- A line tells what was printed: no two have the same. Assumes nothing.
use Rattle.std.specs.Prelude.{◌≡◌, ◌^◌, ◌<◌}
use Rattle.records.specs.declared.faults.Fault.{Fault}
use Rattle.records.specs.declared.fixes.Fix.{Fix}
use Rattle.lines.specs.Lines.{fix_line, fault_line}

-- the numbers have at most 64 bits, as those of every fix in the program
pub record FixFits (f : Fix) : Type 0 where
  pub start : f.start < 2 ^ 64
  pub count : f.count < 2 ^ 64
  pub mean : f.mean < 2 ^ 64

pub record FaultFits (f : Fault) : Type 0 where
  pub code : f.code < 2 ^ 64
  pub channel : f.channel < 2 ^ 64
  pub depth : f.depth < 2 ^ 64

-- the same number, channel and depth; the figures are not printed
pub record SameButFigures (f g : Fault) : Type 0 where
  pub code : f.code ≡ g.code
  pub channel : f.channel ≡ g.channel
  pub depth : f.depth ≡ g.depth

-- fixes with the same line are one
abbrev pub TellsFix : Type 0
TellsFix = (f g : Fix) → FixFits f → FixFits g → fix_line f ≡ fix_line g → f ≡ g

-- faults with the same line differ in their figures at most
abbrev pub TellsFault : Type 0
TellsFault = (f g : Fault) → FaultFits f → FaultFits g → fault_line f ≡ fault_line g → SameButFigures f g
