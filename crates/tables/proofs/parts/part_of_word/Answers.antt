use Rattle.std.proofs.Common.{codes, arith, sym, ap}
use Rattle.tables.proofs.Equal.{spelt}
use Rattle.tables.specs.Lines.{part_of_word}
use Rattle.tables.proofs.parts.part_of_word.Goals as goal

pub returns-in-moduli : goal.returns-in-moduli
returns-in-moduli c = sym (ap part_of_word (spelt c.args.word.now 0 (codes "moduli") (omega arith, (omega arith, (omega arith, (omega arith, (omega arith, (omega arith, omega arith))))))))

pub returns-in-bounds : goal.returns-in-bounds
returns-in-bounds c = sym (ap part_of_word (spelt c.args.word.now 0 (codes "bounds") (omega arith, (omega arith, (omega arith, (omega arith, (omega arith, (omega arith, omega arith))))))))
