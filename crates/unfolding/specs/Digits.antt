-- Mixed radix digits, one earlier digit at a time. Assumes nothing.
use Rattle.std.specs.Prelude.{◌≡◌, ℕ, ◌+◌, ◌-◌, ◌*◌, ◌%◌, ◌<◌, List, [], ◌∷◌, length, get_or, ℤ, pos, ◌-ℤ◌, slice_index, slice_index_or}
use Rattle.residues.specs.Circle.{◌modulo◌}
use Rattle.residues.specs.Products.{product}

-- each of these numbers is below g
abbrev pub Below : (g : ℕ) → List ℕ → Type 0
Below g xs = (k : ℕ) → k < length xs → slice_index xs k < g

-- x less digit d and divided by d's factor, whose inverse modulo g is i; and so for each digit in turn
abbrev pub peeled : (g x : ℕ) → (inverses digits : List ℕ) → ℕ
peeled g x [] ds = x
peeled g x (i ∷ is) [] = x
peeled g x (i ∷ is) (d ∷ ds) = peeled g ((x + (g - d % g)) % g * i % g) is ds

-- the number with these digits, lowest first: d₀ + g₀·(d₁ + g₁·(d₂ + …))
abbrev pub mixed : (gs ds : List ℕ) → ℕ
mixed [] ds = 0
mixed (g ∷ gs) [] = 0
mixed (g ∷ gs) (d ∷ ds) = d + g * mixed gs ds

-- y is below the product of the factors, and is each quotient modulo its factor
pub record Agreeing (gs : List ℕ) (qs : List ℤ) (y : ℕ) : Type 0 where
  pub below : y < product gs
  pub agree : (k : ℕ) → k < length gs → (pos y -ℤ slice_index_or qs k (pos 0)) modulo get_or gs k 0 ≡ 0
