-- Numbers at the front of the places that a setting keeps them in.
use Rattle.std.proofs.Common.{◌≡◌, ℕ, ◌+◌, ◌-◌, ◌<◌, ◌≤◌, List, ◌++◌, length, drop, replicate, get_or, get_or-drop, refl, sym, ◌∙◌, subst, arith}
use Rattle.std.proofs.lemmas.List.{get_or_append_left, get_or-append_right, get_or-replicate}
use Rattle.std.proofs.Math.ListN.{get_or-eq_default}
use native.Mathlib.Decide.{dec_lt}
use Rattle.settings.specs.Kept.{inverse_at, InversesBelow, InversesInvert}
use Rattle.settings.specs.Tables.{InversesMade}
use Rattle.settings.specs.Told.{Inverse}

-- zeros behind numbers change none of them
pub behind : (xs zeros : List ℕ) → ((k : ℕ) → get_or zeros k 0 ≡ 0) → (k : ℕ) → get_or (xs ++ zeros) k 0 ≡ get_or xs k 0
behind xs zeros are k = pick (dec_lt k (length xs))
  where
    pick : Dec (k < length xs) → get_or (xs ++ zeros) k 0 ≡ get_or xs k 0
    pick (yes h) = get_or_append_left xs zeros 0 k h
    pick (no h) =
        let l : length xs ≤ k = omega arith in
        get_or-append_right xs zeros (length xs) k 0 refl l ∙ are (k - length xs) ∙ sym (get_or-eq_default xs 0 l)

pub eight_zeros : (n k : ℕ) → get_or (drop n (replicate {A = ℕ} 8 0)) k 0 ≡ 0
eight_zeros n k = get_or-drop n (replicate {A = ℕ} 8 0) k 0 ∙ pick (dec_lt (n + k) 8)
  where
    pick : Dec (n + k < 8) → get_or (replicate {A = ℕ} 8 0) (n + k) 0 ≡ 0
    pick (yes h) = get_or-replicate 8 (n + k) 0 0 h
    pick (no h) = let l : 8 ≤ n + k = omega arith in get_or-eq_default (replicate {A = ℕ} 8 0) 0 l

-- what holds of 0 and of each number holds of each place
pub everywhere : (xs : List ℕ) (P : ℕ → Type 0) → P 0 → ((k : ℕ) → k < length xs → P (get_or xs k 0)) → (k : ℕ) → P (get_or xs k 0)
everywhere xs P at_zero each k = pick (dec_lt k (length xs))
  where
    pick : Dec (k < length xs) → P (get_or xs k 0)
    pick (yes h) = each k h
    pick (no h) = let l : length xs ≤ k = omega arith in subst P (sym (get_or-eq_default xs 0 l)) at_zero

module _ (gs places : List ℕ) (same : (k : ℕ) → get_or places k 0 ≡ get_or gs k 0) where
  inverse_placed : (table : List (List ℕ)) → InversesMade gs table (length gs) → (j k : ℕ) → (j < k) × (k < length gs) → Inverse (get_or places j 0) (get_or places k 0) (inverse_at table j k)
  inverse_placed table made j k (l, h) =
      let i : j < length gs = omega arith in
      subst (λ (x : ℕ). Inverse x (get_or places k 0) (inverse_at table j k)) (sym (same j))
      (subst (λ (x : ℕ). Inverse (get_or gs j 0) x (inverse_at table j k)) (sym (same k)) (made j k i l h))

  pub below_placed : (table : List (List ℕ)) → InversesMade gs table (length gs) → InversesBelow (length gs) places table
  below_placed table made j k h = (inverse_placed table made j k h).below

  pub invert_placed : (table : List (List ℕ)) → InversesMade gs table (length gs) → InversesInvert (length gs) places table
  invert_placed table made j k h = (inverse_placed table made j k h).gives_one
