-- Rows, columns and entries by their numbers.
use Rattle.std.proofs.Common.{◌≡◌, ℕ, zero, suc, ◌+◌, ◌*◌, ◌/◌, ◌<◌, ◌≤◌, true, cond, ltb, List, length, get_or, is_some, Some, None, IfSome, Option, sym, refl, ap, ◌∙◌, mul-le-mul_right, add-mul, zero-add, div-mul-le_self, arith}
use Rattle.std.proofs.Math.Nat.{div-zero}
use Rattle.std.specs.List.{slice_get}
use Rattle.std.specs.Option.{SomeIff, unwrap_or}
use Rattle.std.proofs.lemmas.Option.{slice_get-get_or, slice_get_past}
use Rattle.std.proofs.lemmas.Bool.{lt-ltb, ltb-false, ltb-true}
use Rattle.recordings.specs.declared.entries.ChannelEntry.{ChannelEntry}
use Rattle.recordings.specs.declared.recording.Recording.{Recording}
use Rattle.recordings.specs.Numbers.{number_from, numbers_in}
use Rattle.recordings.specs.Contents.{entry_from, entries_in, column_from, column_of, entries_of, rows_of, number_told}
use Rattle.recordings.proofs.Words.{length_numbers, number_at}
use Rattle.recordings.proofs.Pairs.{length_entries, entry_of_numbers}

pub length_column : (xs : List ℕ) (c k i n : ℕ) → length (column_from xs c k i n) ≡ n
length_column xs c k i zero = refl
length_column xs c k i (suc n) = ap suc (length_column xs c k (suc i) n)

pub in_column : (xs : List ℕ) (c k i n j : ℕ) → j < n → get_or (column_from xs c k i n) j 0 ≡ get_or xs ((i + j) * c + k) 0
in_column xs c k i zero j h = absurd (omega arith)
in_column xs c k i (suc n) zero h = let e : i + 0 ≡ i = omega arith in rw e
in_column xs c k i (suc n) (suc j) h = let e : suc i + j ≡ i + suc j = omega arith in in_column xs c k (suc i) n j (omega arith) ∙ ap (λ z. get_or xs (z * c + k) 0) e

pub length_entries_in : (bs : List ℕ) → length (entries_in (numbers_in bs)) ≡ length bs / 8
length_entries_in bs = length_entries (numbers_in bs) ∙ omega (arith, length_numbers bs)

-- entry k of the entries' bytes
pub entry_found : (bs : List ℕ) (k : ℕ) → k < length bs / 8 → slice_get (entries_in (numbers_in bs)) k ≡ Some (entry_from bs (8 * k))
entry_found bs k h =
    let ln = length_numbers bs in
    let le = length_entries_in bs in
    let d : ChannelEntry = record { modulus = 0; bound = 0 } in
    let e = entry_of_numbers (numbers_in bs) k d (omega arith) in
    let a0 : 4 * (2 * k) ≡ 8 * k = omega arith in
    let a1 : 4 * (2 * k + 1) ≡ 8 * k + 4 = omega arith in
    let m = number_at bs (2 * k) (omega arith) ∙ ap (number_from bs) a0 in
    let t = number_at bs (2 * k + 1) (omega arith) ∙ ap (number_from bs) a1 in
    slice_get-get_or (entries_in (numbers_in bs)) k d (omega arith) ∙ ap Some (cc)

-- what is told of entry k: the entry of its bytes, if there are any
pub entry_told : (bs : List ℕ) (k : ℕ) (o : Option ChannelEntry) → is_some o ≡ ltb k (length (entries_in (numbers_in bs))) → IfSome o (λ e. e ≡ entry_from bs (8 * k)) → o ≡ slice_get (entries_in (numbers_in bs)) k
entry_told bs k None v s = sym (slice_get_past (entries_in (numbers_in bs)) k (ltb-false k _ (sym v)))
entry_told bs k (Some e) v s = let l = ltb-true k _ (sym v) in ap Some s ∙ sym (entry_found bs k (omega (arith, length_entries_in bs)))

-- what is told of m numbers in rows of n
pub rows_told : (o : Option ℕ) (m n : ℕ) → SomeIff o (0 < n) (m / n) → unwrap_or o 0 ≡ m / n
rows_told None m n h = let z : n ≡ 0 = omega arith in rw z (sym (div-zero m))
rows_told (Some q) m n h = h.1

-- the place of a row's channel is among the numbers
pub place_below : (n c i k : ℕ) → i < n / c → k < c → i * c + k < n
place_below n c i k hi hk =
    let a = mul-le-mul_right {m = i + 1} {n = n / c} c (omega arith) in
    let b = div-mul-le_self n c in
    omega (arith, add-mul i 1 c)

-- the number of a row and a channel, where the code counted n rows and c channels
module _ (r : Recording) (c n i k : ℕ) (ec : c ≡ length (entries_of r)) (en : n ≡ length (rows_of r) / length (entries_of r)) (hi : i < n) (hk : k < c) where
  pub place_within : i * c + k < length (rows_of r)
  place_within = let e : n ≡ length (rows_of r) / c = en ∙ ap (λ z. length (rows_of r) / z) (sym ec) in place_below (length (rows_of r)) c i k (omega arith) hk

  pub number_within : 4 * (i * c + k) + 4 ≤ length r.rows.now
  number_within = omega (arith, place_within, length_numbers r.rows.now)

  pub number_found : number_told r i k ≡ Some (number_from r.rows.now (4 * (i * c + k)))
  number_found =
      let xs = rows_of r in
      let w = place_within in
      let le : length (column_of r k) ≡ n = length_column xs (length (entries_of r)) k 0 _ ∙ sym en in
      let t : ltb k (length (entries_of r)) ≡ true = lt-ltb k _ (omega arith) in
      let z : (0 + i) * c + k ≡ i * c + k = ap (λ u. u * c + k) (zero-add i) in
      let at : get_or (column_of r k) i 0 ≡ get_or xs (i * c + k) 0 =
      in_column xs (length (entries_of r)) k 0 _ i (omega arith) ∙ ap (λ u. get_or xs ((0 + i) * u + k) 0) (sym ec) ∙ ap (λ u. get_or xs u 0) z in
      let num : get_or xs (i * c + k) 0 ≡ number_from r.rows.now (4 * (i * c + k)) = number_at r.rows.now (i * c + k) (omega (arith, length_numbers r.rows.now)) in
      ap (λ b. cond b (slice_get (column_of r k) i) None) t ∙ slice_get-get_or (column_of r k) i 0 (omega arith) ∙ ap Some (at ∙ num)
