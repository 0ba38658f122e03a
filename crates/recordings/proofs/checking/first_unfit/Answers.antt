use Rattle.std.proofs.Common.{rules, tests, refl}
use Rattle.std.proofs.lemmas.Iterator.Consumers.{YieldsList-from_first}
use Rattle.std.proofs.lemmas.Iterator.Search.{position_from_yields_List}
use Rattle.recordings.specs.Refusals.{unfit}
use Rattle.recordings.specs.Walking.{entries_left}
use Rattle.recordings.proofs.checking.first_unfit.Goals as goal

pub returns : goal.returns
returns c = position_from_yields_List unfit c.position.new.self _ c.position.result c.position.ensures.ran (YieldsList-from_first (λ x. x) entries_left _ refl) (λ x b q k. search (rules, tests))
