-- The bytes of a printed line. Assumes nothing.
use Rattle.std.specs.Prelude.{ℕ, List, [], ◌∷◌, ◌++◌, codes, decimal}
use Rattle.records.specs.declared.faults.Fault.{Fault}
use Rattle.records.specs.declared.fixes.Fix.{Fix}

-- a space, and the byte that ends a line
abbrev pub blank : ℕ
blank = 32

abbrev pub line_end : ℕ
line_end = 10

abbrev pub fix_line : Fix → List ℕ
fix_line f = decimal f.start ++ blank ∷ (decimal f.count ++ blank ∷ (decimal f.mean ++ line_end ∷ []))

abbrev pub fault_line : Fault → List ℕ
fault_line f = codes "refused " ++ (decimal f.code ++ (codes " channel " ++ (decimal f.channel ++ (codes " depth " ++ (decimal f.depth ++ line_end ∷ [])))))
