-- The entries and numbers that bytes have left, as they are read one by one.
use Rattle.std.proofs.Common.{◌≡◌, ℕ, ◌+◌, ◌-◌, ◌*◌, ◌/◌, ◌≤◌, ◌<◌, cond, List, [], ◌∷◌, length, take, drop, Some, None, slice_get, sym, refl, ap, ◌∙◌, ⊎_elim, mul-le-mul_right, add-mul, div-mul-le_self, arith}
use Rattle.std.proofs.lemmas.Bool.{cases_lt, le-ltb}
use Rattle.std.proofs.lemmas.List.{length-drop, length-take-le, nil_from_length}
use Rattle.std.proofs.lemmas.Option.{slice_get-get_or, slice_get_past}
use Rattle.recordings.specs.declared.recording.Recording.{Recording}
use Rattle.recordings.specs.Numbers.{number_from, numbers_in}
use Rattle.recordings.specs.Contents.{column_of, entry_from, entries_in, entries_of, number_told, rows_of}
use Rattle.recordings.proofs.Words.{length_numbers, number_at}
use Rattle.recordings.proofs.Columns.{length_entries_in, number_found}
use Rattle.recordings.proofs.Passing.{number_in_part}

pub entries_first : (bs : List ℕ) → 8 ≤ length bs → entries_in (numbers_in bs) ≡ entry_from (take 8 bs) 0 ∷ entries_in (numbers_in (drop 8 bs))
entries_first [] l = absurd (omega arith)
entries_first (a ∷ []) l = absurd (omega arith)
entries_first (a ∷ b ∷ []) l = absurd (omega arith)
entries_first (a ∷ b ∷ c ∷ []) l = absurd (omega arith)
entries_first (a ∷ b ∷ c ∷ d ∷ []) l = absurd (omega arith)
entries_first (a ∷ b ∷ c ∷ d ∷ e ∷ []) l = absurd (omega arith)
entries_first (a ∷ b ∷ c ∷ d ∷ e ∷ f ∷ []) l = absurd (omega arith)
entries_first (a ∷ b ∷ c ∷ d ∷ e ∷ f ∷ g ∷ []) l = absurd (omega arith)
entries_first (a ∷ b ∷ c ∷ d ∷ e ∷ f ∷ g ∷ h ∷ bs) l = refl

pub entries_over : (bs : List ℕ) → length bs < 8 → entries_in (numbers_in bs) ≡ []
entries_over bs l = nil_from_length _ (omega (arith, length_entries_in bs))

pub numbers_first : (bs : List ℕ) → 4 ≤ length bs → numbers_in bs ≡ number_from (take 4 bs) 0 ∷ numbers_in (drop 4 bs)
numbers_first [] l = absurd (omega arith)
numbers_first (a ∷ []) l = absurd (omega arith)
numbers_first (a ∷ b ∷ []) l = absurd (omega arith)
numbers_first (a ∷ b ∷ c ∷ []) l = absurd (omega arith)
numbers_first (a ∷ b ∷ c ∷ d ∷ bs) l = refl

pub numbers_over : (bs : List ℕ) → length bs < 4 → numbers_in bs ≡ []
numbers_over bs l = nil_from_length _ (omega (arith, length_numbers bs))

-- the numbers of row i, which begins at byte p, where the code counted n rows and c channels
module _ (r : Recording) (c n i : ℕ) (ec : c ≡ length (entries_of r)) (en : n ≡ length (rows_of r) / length (entries_of r)) (hi : i < n) where
  pub row_within : 4 * (i * c) + 4 * c ≤ length r.rows.now
  row_within =
      let e : n ≡ length (rows_of r) / c = en ∙ ap (λ z. length (rows_of r) / z) (sym ec) in
      let a = mul-le-mul_right {m = i + 1} {n = length (rows_of r) / c} c (omega arith) in
      let b = div-mul-le_self (length (rows_of r)) c in
      omega (arith, add-mul i 1 c, length_numbers r.rows.now)

  row_length : length (numbers_in (take (4 * c) (drop (4 * (i * c)) r.rows.now))) ≡ c
  row_length =
      let l : length (take (4 * c) (drop (4 * (i * c)) r.rows.now)) ≡ 4 * c = length-take-le _ _ (simp length-drop (omega (arith, row_within))) in
      omega (arith, length_numbers (take (4 * c) (drop (4 * (i * c)) r.rows.now)))

  in_row : (k : ℕ) → k < c → slice_get (numbers_in (take (4 * c) (drop (4 * (i * c)) r.rows.now))) k ≡ number_told r i k
  in_row k h =
      let part = take (4 * c) (drop (4 * (i * c)) r.rows.now) in
      let l : length part ≡ 4 * c = length-take-le _ _ (simp length-drop (omega (arith, row_within))) in
      let z : 4 * (i * c) + 4 * k ≡ 4 * (i * c + k) = omega arith in
      slice_get-get_or (numbers_in part) k 0 (omega (arith, row_length))
      ∙ ap Some (number_at part k (omega arith) ∙ number_in_part (4 * (i * c)) (4 * c) (4 * k) r.rows.now (omega arith) ∙ ap (number_from r.rows.now) z)
      ∙ sym (number_found r c n i k ec en hi h)

  past_row : (k : ℕ) → c ≤ k → slice_get (numbers_in (take (4 * c) (drop (4 * (i * c)) r.rows.now))) k ≡ number_told r i k
  past_row k h =
      slice_get_past _ k (omega (arith, row_length)) ∙ sym (ap (λ b. cond b (slice_get (column_of r k) i) None) (le-ltb k (length (entries_of r)) (omega arith)))

  row_told : (k : ℕ) → slice_get (numbers_in (take (4 * c) (drop (4 * (i * c)) r.rows.now))) k ≡ number_told r i k
  row_told k = ⊎_elim (λ h. in_row k h) (λ h. past_row k h) (cases_lt k c)

  -- the same, of the part that the code takes
  same : 4 * (i * c) + 4 * c - 4 * (i * c) ≡ 4 * c
  same = omega arith

  pub part_told : (k : ℕ) → slice_get (numbers_in (take (4 * (i * c) + 4 * c - 4 * (i * c)) (drop (4 * (i * c)) r.rows.now))) k ≡ number_told r i k
  part_told k = rw same (row_told k)

  pub part_length : length (numbers_in (take (4 * (i * c) + 4 * c - 4 * (i * c)) (drop (4 * (i * c)) r.rows.now))) ≡ length (entries_of r)
  part_length = rw same (row_length ∙ ec)
