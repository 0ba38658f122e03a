use Rattle.std.proofs.Common.{rules}
use Rattle.banks.proofs.Joining.{both_count}
use Rattle.banks.proofs.joined_banks.JoinedBank.count.Goals as goal

pub returns : goal.returns
returns g c = search (rules, both_count)
