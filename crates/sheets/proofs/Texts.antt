-- A table that is written part by part.
use Rattle.std.proofs.Common.{◌≡◌, ℕ, suc, ◌+◌, ◌<◌, cond, List, [], ◌∷◌, ◌++◌, length, None, codes, decimal, Option, ap, ◌∙◌, arith}
use Rattle.std.specs.List.{slice_get}
use Rattle.std.proofs.lemmas.List.{flat_map_more}
use Rattle.std.proofs.lemmas.Bool.{lt-ltb}
use Rattle.recordings.specs.declared.entries.ChannelEntry.{ChannelEntry}
use Rattle.recordings.specs.declared.recording.Recording.{Recording}
use Rattle.recordings.specs.Contents.{column_of, entries_of, number_told, rows_of}
use Rattle.sheets.specs.Rows.{cells, figure_words, gap_of, row_lines, word_of}

-- one more entry
pub figure_more : (f : ChannelEntry → ℕ) (es : List ChannelEntry) (e : ChannelEntry) (n : ℕ) → n ≡ f e → figure_words f es ++ (32 ∷ decimal n) ≡ figure_words f (es ++ e ∷ [])
figure_more f es e n en = ap (λ z. figure_words f es ++ (32 ∷ decimal z)) en ∙ flat_map_more (λ d. 32 ∷ decimal (f d)) [] es e

-- one more number of row i
pub cell_more : (r : Recording) (i k : ℕ) (g : List ℕ) (o : Option ℕ) → k < length (entries_of r) → g ≡ gap_of k → o ≡ number_told r i k
    → cells (rows_of r) (length (entries_of r)) i k ++ (g ++ word_of o) ≡ cells (rows_of r) (length (entries_of r)) i (k + 1)
cell_more r i k g o lt eg eo =
    let e : suc k ≡ k + 1 = omega arith in
    let t = eo ∙ ap (λ b. cond b (slice_get (column_of r k) i) None) (lt-ltb k (length (entries_of r)) lt) in
    ap (λ z. cells (rows_of r) (length (entries_of r)) i k ++ (z ++ word_of o)) eg
    ∙ ap (λ z. cells (rows_of r) (length (entries_of r)) i k ++ (gap_of k ++ word_of z)) t
    ∙ ap (cells (rows_of r) (length (entries_of r)) i) e

-- one more row
pub row_more : (xs : List ℕ) (c i : ℕ) → row_lines xs c i ++ (cells xs c i c ++ codes "\n") ≡ row_lines xs c (i + 1)
row_more xs c i = let e : suc i ≡ i + 1 = omega arith in ap (row_lines xs c) e
