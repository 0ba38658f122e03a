-- What a folding tells. Assumes nothing.
use Rattle.std.specs.Prelude.{List, ℤ}
use Rattle.unfolding.specs.declared.kept.Folding.{Folding}
use Rattle.unfolding.specs.Few.{items}

abbrev pub quotients_of : Folding → List ℤ
quotients_of f = items f.quotients

abbrev pub folds_of : Folding → List ℤ
folds_of f = items f.folds

abbrev pub unfolded_of : Folding → List ℤ
unfolded_of f = items f.unfolded
