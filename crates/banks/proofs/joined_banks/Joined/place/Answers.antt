use Rattle.std.proofs.Common.{rules}
use Rattle.banks.proofs.Joining.{placed}
use Rattle.banks.proofs.joined_banks.Joined.place.Goals as goal

pub returns : goal.returns
returns g c =
    let s = c.args.self.now in
    placed (g.A.Bank.channels s.first) (g.B.Bank.channels s.second) c.args.channel c.own_number.result (search rules)
