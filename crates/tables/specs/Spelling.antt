-- What is written is read back: the laws of words, rows and heading lines. Assumes nothing.
use Rattle.std.specs.Prelude.{◌≡◌, ℕ, ◌^◌, ◌<◌, true, false, List, [], ◌∷◌, ◌++◌, length, Ok, codes, decimal}
use Rattle.std.specs.List.{flat_map, AllByRecursion}
use Rattle.tables.specs.declared.headings.Heading.{Heading}
use Rattle.tables.specs.declared.parts.Part.TheVariants.{Moduli, Bounds, Row}
use Rattle.tables.specs.Lines.{part_of}
use Rattle.tables.specs.Tables.{line_in}
use Rattle.tables.specs.Words.{is_space, words}

-- at a space a text falls into two, each with its own words; a text without one is one word
pub record WordsLaw : Type 0 where
  pub parts : (xs ys : List ℕ) → words (xs ++ 32 ∷ ys) ≡ words xs ++ words ys
  pub single : (w : List ℕ) → 0 < length w → AllByRecursion (λ b. is_space b ≡ false) w → words w ≡ w ∷ []

-- each number after a space
abbrev pub spaced : List ℕ → List ℕ
spaced ns = flat_map (λ n. 32 ∷ decimal n) ns

abbrev pub Small : List ℕ → Type 0
Small ns = AllByRecursion (λ n. n < 2 ^ 32) ns

-- numbers below 2^32, written with one space between them, are read back
pub record ReadsBack : Type 0 where
  pub moduli : (h : Heading) (ns : List ℕ) → Small ns → h.moduli ≡ false → (part_of (codes "moduli" ++ spaced ns) ≡ Moduli) × (line_in h (codes "moduli" ++ spaced ns) ≡ Ok ns)
  pub bounds : (h : Heading) (ns : List ℕ) → Small ns → h.bounds ≡ false → (part_of (codes "bounds" ++ spaced ns) ≡ Bounds) × (line_in h (codes "bounds" ++ spaced ns) ≡ Ok ns)
  pub row : (h : Heading) (n : ℕ) (ns : List ℕ) → Small (n ∷ ns) → h.moduli ≡ true → h.bounds ≡ true → (part_of (decimal n ++ spaced ns) ≡ Row) × (line_in h (decimal n ++ spaced ns) ≡ Ok (n ∷ ns))
