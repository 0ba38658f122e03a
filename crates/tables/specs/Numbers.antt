-- The numbers that the words of a line write. Assumes nothing.
use Rattle.std.specs.Prelude.{◌≡◌, ℕ, ◌+◌, ◌-◌, ◌^◌, ◌<◌, Bool, cond, ◌⊎◌, List, [], ◌∷◌, length, Ok, Err, codes, Result}
use Rattle.std.specs.Str.{bytes_eq}
use Rattle.tables.specs.declared.errors.BadText.{BadText}
use Rattle.tables.specs.declared.errors.BadText.TheVariants.{NotNumber, TooLarge, Dash, NoMemory}
use Rattle.tables.specs.declared.numerals.NoNumber.{NoNumber}
use Rattle.tables.specs.declared.numerals.NoNumber.TheVariants as why
use Rattle.tables.specs.Numerals.{number_in}

-- the bad text that a word at a place is which is no number
abbrev pub misread_at : ℕ → NoNumber → BadText
misread_at k why.NotDigits = NotNumber k
misread_at k why.TooLarge = TooLarge k

abbrev pub placed : ℕ → Result ℕ NoNumber → Result ℕ BadText
placed k (Ok n) = Ok n
placed k (Err e) = Err (misread_at k e)

-- the number that the word at a place writes; a dash is the largest number where dark says so
abbrev pub number_at : Bool → ℕ → List ℕ → Result ℕ BadText
number_at dark k w = cond (bytes_eq w (codes "-")) (cond dark (Ok (2 ^ 32 - 1)) (Err (Dash k))) (placed k (number_in w))

-- a number before others; the first that is bad counts
abbrev pub ahead : Result ℕ BadText → Result (List ℕ) BadText → Result (List ℕ) BadText
ahead (Ok n) (Ok ns) = Ok (n ∷ ns)
ahead (Ok n) (Err e) = Err e
ahead (Err e) ns = Err e

-- the numbers that words write which stand after k others in their line
abbrev pub numbers_from : Bool → ℕ → List (List ℕ) → Result (List ℕ) BadText
numbers_from dark k [] = Ok []
numbers_from dark k (w ∷ ws) = ahead (number_at dark (k + 1) w) (numbers_from dark (k + 1) ws)

-- memory was wanting: the list had no room for so many words
abbrev pub NoRoom : ℕ → List (List ℕ) → BadText → Type 0
NoRoom room ws e = (e ≡ NoMemory) × (room < length ws)

-- a list with room for so many numbers was filled with those that were told, or the refusal is that which was told, or a want of memory
abbrev pub Filled : ℕ → List (List ℕ) → Result (List ℕ) BadText → Result (Unit {0}) BadText → List ℕ → Type 0
Filled room ws told (Ok u) ns = told ≡ Ok ns
Filled room ws told (Err e) ns = (told ≡ Err e) ⊎ NoRoom room ws e
