-- What `number_in` answers at a word, and at the digits of a number. Assumes nothing.
use Rattle.std.proofs.Common.{◌≡◌, ℕ, ◌+◌, ◌-◌, ◌*◌, ◌^◌, ◌<◌, ◌≤◌, min, Bool, true, false, List, [], ◌∷◌, length, get_or, take, Ok, Err, decimal, Result, sym, refl, ap, ◌∙◌, subst, arith, le-ltb, lt-ltb}
use Rattle.std.proofs.lemmas.Fmt.{decimal_nonempty, digits_decimal, digits_value-decimal}
use Rattle.std.proofs.lemmas.Int.Digits.{digits_value_more}
use Rattle.std.proofs.lemmas.List.{take_all}
use Rattle.std.proofs.lemmas.Str.Parse.{IsNumeralModel, numerals_by_value, tells_all_ascii_digits, digit_at}
use Rattle.std.proofs.lemmas.Str.{digit_value_digit}
use Rattle.std.specs.Str.Parse.{AllDigits, digits_value}
use Rattle.std.specs.Int.{IsInRange}
use Rattle.std.specs.Str.{all_ascii_digits}
use Rattle.tables.specs.declared.numerals.NoNumber.{NoNumber}
use Rattle.tables.specs.declared.numerals.NoNumber.TheVariants.{NotDigits, TooLarge}
use Rattle.tables.specs.Numerals.{number_in}

own : IsNumeralModel (λ ds. all_ascii_digits ds ≡ true) (digits_value 10)
own = numerals_by_value _ tells_all_ascii_digits

false_from : (b : Bool) → (b ≡ true → ⊥) → b ≡ false
false_from true h = absurd (h refl)
false_from false h = refl

pub at_number : (w : List ℕ) → 0 < length w → AllDigits 10 w → digits_value 10 w < 2 ^ 32 → number_in w ≡ Ok (digits_value 10 w)
at_number [] some ds small = absurd (omega arith)
at_number (b ∷ bs) some ds small = rw (own.from (b ∷ bs) ds, lt-ltb _ _ small) refl

pub at_large : (w : List ℕ) → 0 < length w → AllDigits 10 w → 2 ^ 32 ≤ digits_value 10 w → number_in w ≡ Err TooLarge
at_large [] some ds large = absurd (omega arith)
at_large (b ∷ bs) some ds large = rw (own.from (b ∷ bs) ds, le-ltb _ _ large) refl

pub at_other : (w : List ℕ) → (AllDigits 10 w → ⊥) → number_in w ≡ Err NotDigits
at_other [] no-digits = refl
at_other (b ∷ bs) no-digits = rw (false_from (all_ascii_digits (b ∷ bs)) (λ e. no-digits (own.to (b ∷ bs) e))) refl

-- a byte that is no digit
pub stray : (w : List ℕ) (i : ℕ) → i < length w → (IsInRange 48 57 (get_or w i 0) → ⊥) → AllDigits 10 w → ⊥
stray w i lt out ds = out (digit_at w i ds lt)

pub at_decimal : (w : List ℕ) (n : ℕ) → n < 2 ^ 32 → w ≡ decimal n → number_in w ≡ Ok n
at_decimal w n small e =
    let big : n < 2 ^ 64 = omega arith in
    let is : digits_value 10 (decimal n) ≡ n = digits_value-decimal own n big in
    ap number_in e ∙ at_number (decimal n) (decimal_nonempty n big) (own.to _ (digits_decimal own n big)) (omega (arith, is)) ∙ ap Ok is

-- one digit more, capped
pub capped_more : (w : List ℕ) (i n : ℕ) → i < length w → IsInRange 48 57 (get_or w i 0) → n ≡ min (digits_value 10 (take i w)) (2 ^ 32) → min (n * 10 + (get_or w i 0 - 48)) (2 ^ 32) ≡ min (digits_value 10 (take (i + 1) w)) (2 ^ 32)
capped_more w i n lt digit so =
    let next = digits_value_more 10 w i lt in
    let is = digit_value_digit (get_or w i 0) digit in
    omega (arith, next, is, so, digit)

pub reads_back : {w : List ℕ} {r : Result ℕ NoNumber} → r ≡ number_in w → (n : ℕ) → n < 2 ^ 32 → w ≡ decimal n → r ≡ Ok n
reads_back {w} is n small e = is ∙ at_decimal w n small e

-- all digits read, and n their value, capped
module _ (w : List ℕ) (i n : ℕ) (all : length w ≤ i) (ds : AllDigits 10 (take i w)) (so : n ≡ min (digits_value 10 (take i w)) (2 ^ 32)) (some : length w ≡ 0 → ⊥) where
  whole : take i w ≡ w
  whole = take_all i w all

  fill : 0 < length w
  fill = omega (arith, some)

  pub ends_large : n ≡ 2 ^ 32 → Err TooLarge ≡ number_in w
  ends_large e = sym (at_large w fill (subst (AllDigits 10) whole ds) (omega (arith, so, ap (digits_value 10) whole)))

  pub ends_number : (n ≡ 2 ^ 32 → ⊥) → Ok n ≡ number_in w
  ends_number e =
      let is : n ≡ digits_value 10 w = omega (arith, so, ap (digits_value 10) whole, e) in
      ap Ok is ∙ sym (at_number w fill (subst (AllDigits 10) whole ds) (omega (arith, so, ap (digits_value 10) whole, e)))

pub empty_word : (w : List ℕ) → length w ≡ 0 → Err NotDigits ≡ number_in w
empty_word [] e = refl
empty_word (b ∷ bs) e = absurd (omega arith)
