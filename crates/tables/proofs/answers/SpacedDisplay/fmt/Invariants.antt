use Rattle.std.proofs.Common.{take, IfSome}
use Rattle.std.specs.Fmt.{IsPlainFormatter, HasWritten}
use Rattle.tables.specs.Answers.{spaced_output}
use Rattle.tables.proofs.answers.SpacedDisplay.fmt.Given as goal

abbrev pub invariant-loop-n : goal.invariant-loop-n
invariant-loop-n g l =
    IsPlainFormatter l.initial.f → IfSome (spaced_output g.T.Display.output (take l.n-index l.self.0.now)) (λ bs. HasWritten g.W.Write.write_str_gives l.initial.f bs l.f)
