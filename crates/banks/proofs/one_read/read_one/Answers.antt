use Rattle.banks.proofs.Reading.{one_read, reading_below}
use Rattle.banks.proofs.Turns.{turn_by_turn}
use Rattle.banks.proofs.one_read.read_one.Goals as goal

pub returns : goal.returns
returns g c =
    let cs = g.B.Bank.channels c.args.bank.now in
    record {
      one = one_read cs c.args.channel c.read.result _ c.read.ensures;
      below = reading_below c.args.channel cs c.read.result (g.B.Bank.laws c.args.bank.now) c.read.ensures.answers;
      turns = turn_by_turn;
    }
