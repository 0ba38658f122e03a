-- Numbers and their bytes, there and back.
use Rattle.std.proofs.Common.{◌≡◌, ℕ, zero, suc, ◌+◌, ◌-◌, ◌*◌, ◌/◌, ◌%◌, ◌^◌, ◌<◌, ◌≤◌, List, [], ◌∷◌, ◌++◌, length, get_or, drop, sym, refl, ap, ◌∙◌, add_assoc, arith}
use Rattle.std.specs.List.{flat_map, AllByRecursion}
use Rattle.std.proofs.lemmas.List.{get_or-append-add, get_or-drop, drop_more}
use Rattle.std.proofs.lemmas.Nat.{from_le_bytes-to_le_bytes_4}
use Rattle.recordings.specs.Numbers.{bytes_of, number_of, number_from, numbers_in}

abbrev pub Byte : ℕ → Type 0
Byte x = x < 256

abbrev pub Word : ℕ → Type 0
Word x = x < 2 ^ 32

pub bytes_of_number : (a b c d : ℕ) → Byte a → Byte b → Byte c → Byte d → bytes_of (number_of a b c d) ≡ a ∷ b ∷ c ∷ d ∷ []
bytes_of_number a b c d ha hb hc hd =
    let q1 : number_of a b c d / 256 ≡ b + c * 256 + d * 65536 = omega arith in
    let q2 : number_of a b c d / 65536 ≡ c + d * 256 = omega arith in
    let q3 : number_of a b c d / 16777216 ≡ d = omega arith in
    let e0 : number_of a b c d % 256 ≡ a = omega arith in
    let e1 : (b + c * 256 + d * 65536) % 256 ≡ b = omega arith in
    let e2 : (c + d * 256) % 256 ≡ c = omega arith in
    let e3 : d % 256 ≡ d = omega arith in
    cc

pub number_of_bytes : (x : ℕ) → Word x → number_of (x % 256) (x / 256 % 256) (x / 65536 % 256) (x / 16777216 % 256) ≡ x
number_of_bytes x h = from_le_bytes-to_le_bytes_4 x h

pub number_word : (a b c d : ℕ) → Byte a → Byte b → Byte c → Byte d → Word (number_of a b c d)
number_word a b c d ha hb hc hd = omega arith

pub numbers_back : (xs : List ℕ) → AllByRecursion Word xs → numbers_in (flat_map bytes_of xs) ≡ xs
numbers_back [] h = refl
numbers_back (x ∷ xs) h = let e = number_of_bytes x h.0 in let r = numbers_back xs h.1 in cc

pub length_numbers : (bs : List ℕ) → length (numbers_in bs) ≡ length bs / 4
length_numbers [] = refl
length_numbers (a ∷ []) = refl
length_numbers (a ∷ b ∷ []) = refl
length_numbers (a ∷ b ∷ c ∷ []) = refl
length_numbers (a ∷ b ∷ c ∷ d ∷ bs) = omega (arith, length_numbers bs)

pub numbers_words : (bs : List ℕ) → AllByRecursion Byte bs → AllByRecursion Word (numbers_in bs)
numbers_words [] h = tt
numbers_words (a ∷ []) h = tt
numbers_words (a ∷ b ∷ []) h = tt
numbers_words (a ∷ b ∷ c ∷ []) h = tt
numbers_words (a ∷ b ∷ c ∷ d ∷ bs) h = (number_word a b c d h.0 h.1.0 h.1.1.0 h.1.1.1.0, numbers_words bs h.1.1.1.1)

pub bytes_back : (bs : List ℕ) (n : ℕ) → AllByRecursion Byte bs → length bs ≡ 4 * n → flat_map bytes_of (numbers_in bs) ≡ bs
bytes_back [] n h l = refl
bytes_back (a ∷ []) n h l = absurd (omega arith)
bytes_back (a ∷ b ∷ []) n h l = absurd (omega arith)
bytes_back (a ∷ b ∷ c ∷ []) n h l = absurd (omega arith)
bytes_back (a ∷ b ∷ c ∷ d ∷ bs) n h l =
    let e = bytes_of_number a b c d h.0 h.1.0 h.1.1.0 h.1.1.1.0 in
    let r = bytes_back bs (n - 1) h.1.1.1.1 (omega arith) in
    ap (λ z. z ++ flat_map bytes_of (numbers_in bs)) e ∙ ap (λ z. a ∷ b ∷ c ∷ d ∷ z) r

pub length_bytes : (xs : List ℕ) → length (flat_map bytes_of xs) ≡ 4 * length xs
length_bytes [] = refl
length_bytes (x ∷ xs) = omega (arith, length_bytes xs)

-- a number in what follows a front
pub number_after : (front bs : List ℕ) (p : ℕ) → number_from (front ++ bs) (length front + p) ≡ number_from bs p
number_after front bs p = simp (add_assoc, get_or-append-add)

-- a number's place by its index
pub number_at : (bs : List ℕ) (i : ℕ) → i < length bs / 4 → get_or (numbers_in bs) i 0 ≡ number_from bs (4 * i)
number_at [] i h = absurd (omega arith)
number_at (a ∷ []) i h = absurd (omega arith)
number_at (a ∷ b ∷ []) i h = absurd (omega arith)
number_at (a ∷ b ∷ c ∷ []) i h = absurd (omega arith)
number_at (a ∷ b ∷ c ∷ d ∷ bs) zero h = refl
number_at (a ∷ b ∷ c ∷ d ∷ bs) (suc i) h =
    let e : 4 + 4 * i ≡ 4 * suc i = omega arith in
    number_at bs i (omega arith) ∙ sym (number_after (a ∷ b ∷ c ∷ d ∷ []) bs (4 * i)) ∙ ap (number_from (a ∷ b ∷ c ∷ d ∷ bs)) e

pub number_drop : (n : ℕ) (bs : List ℕ) (p : ℕ) → number_from (drop n bs) p ≡ number_from bs (n + p)
number_drop n bs p = simp (get_or-drop, add_assoc)

-- the bytes at place p are those of the number there
pub next_number : (bs : List ℕ) (p : ℕ) → ((i : ℕ) → Byte (get_or bs i 0)) → p + 4 ≤ length bs → bytes_of (number_from bs p) ++ drop (p + 4) bs ≡ drop p bs
next_number bs p h l =
    let e = bytes_of_number _ _ _ _ (h p) (h (p + 1)) (h (p + 2)) (h (p + 3)) in
    let d0 = drop_more bs p 0 (omega arith) in
    let d1 = drop_more bs (p + 1) 0 (omega arith) in
    let d2 = drop_more bs (p + 2) 0 (omega arith) in
    let d3 = drop_more bs (p + 3) 0 (omega arith) in
    let a1 : p + 1 + 1 ≡ p + 2 = omega arith in
    let a2 : p + 2 + 1 ≡ p + 3 = omega arith in
    let a3 : p + 3 + 1 ≡ p + 4 = omega arith in
    ap (λ z. z ++ drop (p + 4) bs) e ∙ cc
