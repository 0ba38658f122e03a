-- Result lines. Assumes nothing.
use Rattle.std.specs.Prelude.{ℕ, List, [], ◌∷◌, ◌++◌, fold, ℤ, Some, Ok, Err, codes, decimal, Option, Result}
use Rattle.records.specs.declared.faults.Fault.{Fault}
use Rattle.std.specs.List.{flat_map}
use Rattle.std.specs.Fmt.{◌++?◌, signed_decimal}
use Rattle.unfolding.specs.declared.kept.Unfolding.{Unfolding}
use Rattle.unfolding.specs.declared.refusals.UnfoldRefusal.{UnfoldRefusal}
use Rattle.unfolding.specs.Refusals.{unfold_fault}
use Rattle.unfolding.specs.Told.{folds_of, unfolded_of}

-- each number after a space
abbrev pub spaced_signed : List ℤ → List ℕ
spaced_signed zs = flat_map (λ z. 32 ∷ signed_decimal z) zs

-- the texts of values, each after a space; it says nothing where the text of one is not known
abbrev pub spaced_output : {X : Type 0} → (X → Option (List ℕ)) → List X → Option (List ℕ)
spaced_output text xs = fold (λ o x. o ++? (Some (32 ∷ []) ++? text x)) (Some []) xs

abbrev pub refusal_line : Fault → List ℕ
refusal_line f = codes "refused " ++ (decimal f.code ++ (codes " channel " ++ (decimal f.channel ++ (codes " depth " ++ decimal f.depth))))

abbrev pub refusal_record : Fault → List ℕ
refusal_record f = refusal_line f ++ (codes " figures " ++ (decimal f.first ++ (codes " " ++ decimal f.second)))

-- folding numbers and unfolded readings, the bracket's start and count, and the mean
abbrev pub parts_line : List ℤ → List ℤ → ℕ → ℕ → ℕ → List ℕ
parts_line folds unfolded start count mean =
    codes "folds" ++ (spaced_signed folds ++ (codes " unfolded" ++ (spaced_signed unfolded ++ (codes " start " ++ (decimal start ++ (codes " count " ++ (decimal count ++ (codes " mean " ++ decimal mean))))))))

abbrev pub unfolding_line : Unfolding → List ℕ
unfolding_line u = parts_line (folds_of u.folding) (unfolded_of u.folding) u.start u.count u.mean

abbrev pub row_line : Result Unfolding UnfoldRefusal → List ℕ
row_line (Ok u) = unfolding_line u
row_line (Err e) = refusal_line (unfold_fault e)
