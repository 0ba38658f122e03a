-- What a channel means, whatever it is made of. Assumes nothing.
use Rattle.std.specs.Prelude.{List}
use Rattle.heads.specs.declared.plates.Figures.{Figures}
use Rattle.heads.specs.Entries.{Entry}

-- its figures and the entries that wait in it
pub record Channel : Type 0 where
  pub figures : Figures
  pub waits : List Entry

abbrev pub channel_of : Figures → List Entry → Channel
channel_of f w = record { figures = f; waits = w }
