-- What lines come to, one line after another.
use Rattle.std.proofs.Common.{◌≡◌, ℕ, ◌+◌, List, [], ◌∷◌, length, Err, Ok, MatchResult, Result, inl, inr, refl, arith}
use Rattle.sheets.specs.declared.errors.BadSheet.{BadSheet}
use Rattle.sheets.specs.declared.lines.Sheet.{Sheet}
use Rattle.sheets.specs.declared.whole.BadLine.{BadLine}
use Rattle.sheets.specs.Lines.{Collects}
use Rattle.sheets.specs.Whole.{ComesTo, lines_of}

-- the same answer, whose error has the number n
abbrev pub Numbered : {T : Type 0} (n : ℕ) → Result T BadSheet → Result T BadLine → Type 0
Numbered {T = T} n m q = MatchResult m (λ x. q ≡ Ok x) (λ e. q ≡ Err (record { line = n; bad = e }))

-- what a line that is good or bad is to the lines that it begins
abbrev pub Steps : (s : Sheet) (n : ℕ) (lines after : List (List ℕ)) → Result Sheet BadLine → Type 0
Steps s n lines after q = MatchResult q (λ t. (r : Result Sheet BadLine) → ComesTo t (n + 1) after r → ComesTo s n lines r) (λ e. ComesTo s n lines (Err e))

pub step : (s : Sheet) (n : ℕ) (line : List ℕ) (lines after : List (List ℕ)) → lines ≡ line ∷ after → (m : Result Sheet BadSheet) → Collects s line m → (q : Result Sheet BadLine) → Numbered n m q → Steps s n lines after q
step s n line lines after is (Ok t) good q said = rw (said, is) (λ r more. inl (t, good, more))
step s n line lines after is (Err bad) wrong q said = rw (said, is) (inr (bad, wrong, refl))

-- no bytes, no lines
pub no_lines : (bs : List ℕ) → length bs ≡ 0 → lines_of bs ≡ []
no_lines [] none = refl
no_lines (b ∷ bs) none = absurd (omega arith)
