-- What a short list has in it. Assumes nothing.
use Rattle.std.specs.Prelude.{List, take}
use Rattle.unfolding.specs.declared.few.Few.{Few}

abbrev pub items : {T : Type 0} → Few T → List T
items f = take f.count f.places
