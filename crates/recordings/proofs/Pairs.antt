-- Entries and their numbers, there and back.
use Rattle.std.proofs.Common.{◌≡◌, ℕ, zero, suc, ◌+◌, ◌-◌, ◌*◌, ◌/◌, ◌<◌, List, [], ◌∷◌, length, get_or, refl, ap, arith}
use Rattle.std.specs.List.{flat_map}
use Rattle.recordings.specs.declared.entries.ChannelEntry.{ChannelEntry}
use Rattle.recordings.specs.Layout.{pair_of}
use Rattle.recordings.specs.Contents.{entries_in}

pub entries_back : (es : List ChannelEntry) → entries_in (flat_map pair_of es) ≡ es
entries_back [] = refl
entries_back (e ∷ es) = ap (λ z. e ∷ z) (entries_back es)

pub length_entries : (xs : List ℕ) → length (entries_in xs) ≡ length xs / 2
length_entries [] = refl
length_entries (m ∷ []) = refl
length_entries (m ∷ t ∷ xs) = omega (arith, length_entries xs)

pub pairs_back : (xs : List ℕ) (n : ℕ) → length xs ≡ 2 * n → flat_map pair_of (entries_in xs) ≡ xs
pairs_back [] n l = refl
pairs_back (m ∷ []) n l = absurd (omega arith)
pairs_back (m ∷ t ∷ xs) n l = ap (λ z. m ∷ t ∷ z) (pairs_back xs (n - 1) (omega arith))

pub length_pairs : (es : List ChannelEntry) → length (flat_map pair_of es) ≡ 2 * length es
length_pairs [] = refl
length_pairs (e ∷ es) = omega (arith, length_pairs es)

-- entry k of numbers
pub entry_of_numbers : (xs : List ℕ) (k : ℕ) (d : ChannelEntry) → k < length xs / 2 → get_or (entries_in xs) k d ≡ record { modulus = get_or xs (2 * k) 0; bound = get_or xs (2 * k + 1) 0 }
entry_of_numbers [] k d h = absurd (omega arith)
entry_of_numbers (m ∷ []) k d h = absurd (omega arith)
entry_of_numbers (m ∷ t ∷ xs) zero d h = refl
entry_of_numbers (m ∷ t ∷ xs) (suc k) d h =
    let e0 : 2 * suc k ≡ suc (suc (2 * k)) = omega arith in
    let e1 : suc (suc (2 * k)) + 1 ≡ suc (suc (2 * k + 1)) = omega arith in
    simp (e0, e1) (entry_of_numbers xs k d (omega arith))
