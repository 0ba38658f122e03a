-- The table of inverses as it is filled, one entry after another.
use Rattle.std.proofs.Common.{◌≡◌, ℕ, suc, ◌+◌, ◌<◌, ◌≤◌, ◌≢◌, ◌⊎◌, List, [], length, get_or, set, sym, ap, ◌∙◌, subst, inl, inr, arith, length-set, get_or-set_other, get_or-set_same}
use Rattle.std.proofs.lemmas.Bool.{cases_eq}
use Rattle.residues.specs.Divisors.{Greatest}
use Rattle.settings.specs.Kept.{inverse_at}
use Rattle.settings.specs.Refusals.{SharesFirst}
use Rattle.settings.specs.Tables.{InversesMade, RowsOfEight}
use Rattle.settings.specs.Told.{Inverse}
use Rattle.settings.proofs.Coprimes.{inverse_coprime}

-- the table with x at place j of row k
abbrev pub written : List (List ℕ) → (j k x : ℕ) → List (List ℕ)
written table j k x = set table k (set (get_or table k []) j x)

pub written_there : (table : List (List ℕ)) (j k x : ℕ) → k < length table → j < length (get_or table k []) → inverse_at (written table j k x) j k ≡ x
written_there table j k x h l =
    ap (λ (row : List ℕ). get_or row j 0) (get_or-set_same table k (set (get_or table k []) j x) [] h) ∙ get_or-set_same (get_or table k []) j x 0 l

pub other_row : (table : List (List ℕ)) (j k x i l : ℕ) → l ≢ k → inverse_at (written table j k x) i l ≡ inverse_at table i l
other_row table j k x i l n = ap (λ (row : List ℕ). get_or row i 0) (get_or-set_other table k l (set (get_or table k []) j x) [] n)

pub other_place : (table : List (List ℕ)) (j k x i : ℕ) → k < length table → i ≢ j → inverse_at (written table j k x) i k ≡ inverse_at table i k
other_place table j k x i h n =
    ap (λ (row : List ℕ). get_or row i 0) (get_or-set_same table k (set (get_or table k []) j x) [] h) ∙ get_or-set_other (get_or table k []) j i x 0 n

pub rows_stay : (table : List (List ℕ)) (j k x : ℕ) → k < length table → RowsOfEight table → RowsOfEight (written table j k x)
rows_stay table j k x h rows l m = pick (cases_eq l k)
  where
    n : l < length table
    n = omega (arith, length-set table k (set (get_or table k []) j x))

    pick : (l ≡ k) ⊎ (l ≡ k → ⊥) → length (get_or (written table j k x) l []) ≡ 8
    pick (inl e) =
        subst (λ (i : ℕ). length (get_or (written table j k x) i []) ≡ 8) (sym e)
        (ap length (get_or-set_same table k (set (get_or table k []) j x) [] h) ∙ length-set (get_or table k []) j x ∙ rows k h)
    pick (inr o) = ap length (get_or-set_other table k l (set (get_or table k []) j x) [] o) ∙ rows l n

-- an earlier factor's inverses stay
pub earlier_stay : (gs : List ℕ) (table : List (List ℕ)) (j k x : ℕ) → k < length table → InversesMade gs table j → InversesMade gs (written table j k x) j
earlier_stay gs table j k x h made i l a b m = pick (cases_eq l k)
  where
    pick : (l ≡ k) ⊎ (l ≡ k → ⊥) → Inverse (get_or gs i 0) (get_or gs l 0) (inverse_at (written table j k x) i l)
    pick (inl e) =
        let n : i ≢ j = omega arith in
        let same : inverse_at (written table j k x) i l ≡ inverse_at table i l =
        subst (λ (r : ℕ). inverse_at (written table j k x) i r ≡ inverse_at table i r) (sym e) (other_place table j k x i h n) in
        subst (λ (y : ℕ). Inverse (get_or gs i 0) (get_or gs l 0) y) (sym same) (made i l a b m)
    pick (inr n) = subst (λ (y : ℕ). Inverse (get_or gs i 0) (get_or gs l 0) y) (sym (other_row table j k x i l n)) (made i l a b m)

-- the inverses of factor j modulo each before k
abbrev pub Column : List ℕ → List (List ℕ) → (j k : ℕ) → Type 0
Column gs table j k = (l : ℕ) → j < l → l < k → Inverse (get_or gs j 0) (get_or gs l 0) (inverse_at table j l)

pub column_none : (gs : List ℕ) (table : List (List ℕ)) (j : ℕ) → Column gs table j (j + 1)
column_none gs table j l a b = absurd (omega arith)

pub column_more : (gs : List ℕ) (table : List (List ℕ)) (j k x : ℕ) → k < length table → j < length (get_or table k []) → Inverse (get_or gs j 0) (get_or gs k 0) x
    → Column gs table j k → Column gs (written table j k x) j (k + 1)
column_more gs table j k x h r is column l a b = pick (cases_eq l k)
  where
    pick : (l ≡ k) ⊎ (l ≡ k → ⊥) → Inverse (get_or gs j 0) (get_or gs l 0) (inverse_at (written table j k x) j l)
    pick (inl e) =
        subst (λ (m : ℕ). Inverse (get_or gs j 0) (get_or gs m 0) (inverse_at (written table j k x) j m)) (sym e)
        (subst (λ (y : ℕ). Inverse (get_or gs j 0) (get_or gs k 0) y) (sym (written_there table j k x h r)) is)
    pick (inr n) = subst (λ (y : ℕ). Inverse (get_or gs j 0) (get_or gs l 0) y) (sym (other_row table j k x j l n)) (column l a (omega arith))

-- a whole column more
pub made_more : (gs : List ℕ) (table : List (List ℕ)) (j n : ℕ) → length gs ≤ n → InversesMade gs table j → Column gs table j n → InversesMade gs table (suc j)
made_more gs table j n h made column i l a b m = pick (cases_eq i j)
  where
    pick : (i ≡ j) ⊎ (i ≡ j → ⊥) → Inverse (get_or gs i 0) (get_or gs l 0) (inverse_at table i l)
    pick (inl e) =
        subst (λ (o : ℕ). Inverse (get_or gs o 0) (get_or gs l 0) (inverse_at table o l)) (sym e) (column l (omega arith) (omega arith))
    pick (inr o) = made i l (omega arith) b m

-- the first pair that shares a divisor comes after pairs that have inverses
pub shares : (gs : List ℕ) (table : List (List ℕ)) (j k d : ℕ) → j < k → k < length gs → Greatest (get_or gs j 0) (get_or gs k 0) d → (d ≡ 1 → ⊥)
    → InversesMade gs table j → Column gs table j k → SharesFirst gs j k d
shares gs table j k d a b g n made column = record {
  in_order = a;
  within = b;
  divisor_is = g;
  shared = n;
  none_before = λ i l x y z. inverse_coprime (get_or gs i 0) (get_or gs l 0) (inverse_at table i l) (made i l x y z).gives_one;
  none_between = λ l x y. inverse_coprime (get_or gs j 0) (get_or gs l 0) (inverse_at table j l) (column l x y).gives_one;
}
