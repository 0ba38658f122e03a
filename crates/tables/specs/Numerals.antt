-- A word as a number. Assumes nothing.
use Rattle.std.specs.Prelude.{ℕ, ◌^◌, cond, List, [], ◌∷◌, Ok, Err, Result, nat_lt}
use Rattle.std.specs.Str.Parse.{digits_value}
use Rattle.std.specs.Str.{all_ascii_digits}
use Rattle.tables.specs.declared.numerals.NoNumber.{NoNumber}
use Rattle.tables.specs.declared.numerals.NoNumber.TheVariants.{NotDigits, TooLarge}

-- what a word of digits alone writes, where it is below 2^32
abbrev pub number_in : List ℕ → Result ℕ NoNumber
number_in [] = Err NotDigits
number_in (b ∷ bs) = cond (all_ascii_digits (b ∷ bs)) (cond (nat_lt (digits_value 10 (b ∷ bs)) (2 ^ 32)) (Ok (digits_value 10 (b ∷ bs))) (Err TooLarge)) (Err NotDigits)
