use Rattle.std.proofs.Common.{arith}
use Rattle.settings.proofs.Coprimes.{made_coprime}
use Rattle.settings.proofs.candidates.Candidate.inverses.Goals as goal

pub returns-clause-coprime : goal.returns-clause-coprime
returns-clause-coprime c = made_coprime c.args.self.now.factors.now c.loop-first.inverses (λ j k h. c.loop-first.invariant.1 j k (omega arith))
