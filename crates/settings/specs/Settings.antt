-- A unit and its factors, what makes them a setting, and the position's remainders. Assumes nothing.
use Rattle.std.specs.Prelude.{◌≡◌, ℕ, ◌*◌, ◌%◌, ◌^◌, ◌<◌, ◌≤◌, List, length, slice_index, slice_index_or}
use Rattle.std.specs.Coded.{×_prop, le_prop}
use Rattle.std.specs.Int.{◌∣◌}
use Rattle.std.proofs.Math.Nat.{ℕ_set}
use Rattle.residues.specs.Products.{product, PairwiseCoprime}

abbrev pub FromTo : (low high : ℕ) → ℕ → Type 0
FromTo low high n = (low ≤ n) × (n ≤ high)

-- each of these numbers lies in the limits
abbrev pub EachFromTo : (low high : ℕ) → List ℕ → Type 0
EachFromTo low high xs = (k : ℕ) → k < length xs → FromTo low high (slice_index xs k)

-- channel k's modulus, and the range of all channels together
abbrev pub modulus_at : (u : ℕ) → List ℕ → ℕ → ℕ
modulus_at u gs k = u * slice_index gs k

abbrev pub range_of : (u : ℕ) → List ℕ → ℕ
range_of u gs = u * product gs

-- the checks, in the order of their numbers
abbrev pub Counted : List ℕ → Type 0
Counted xs = FromTo 1 8 (length xs)

abbrev pub UnitFits : ℕ → Type 0
UnitFits u = FromTo 1 (2 ^ 24) u

abbrev pub FactorFits : List ℕ → ℕ → Type 0
FactorFits gs k = FromTo 2 32768 (slice_index gs k)

abbrev pub ModulusFits : (u : ℕ) → List ℕ → ℕ → Type 0
ModulusFits u gs k = FromTo 1 (2 ^ 31) (modulus_at u gs k)

abbrev pub RangeFits : (u : ℕ) → List ℕ → Type 0
RangeFits u gs = range_of u gs ≤ 2 ^ 40

-- every check passes
pub record Accepted (u : ℕ) (gs : List ℕ) : Type 0 where
  pub counted : Counted gs
  pub unit_fits : UnitFits u
  pub factors_fit : (k : ℕ) → k < length gs → FactorFits gs k
  pub moduli_fit : (k : ℕ) → k < length gs → ModulusFits u gs k
  pub coprime : PairwiseCoprime gs
  pub range_fits : RangeFits u gs

-- that every check passes has one proof at most
pub Accepted-prop : (u : ℕ) (gs : List ℕ) → IsProp (Accepted u gs)
Accepted-prop u gs a b i = record {
  counted = ×_prop le_prop le_prop a.counted b.counted i;
  unit_fits = ×_prop le_prop le_prop a.unit_fits b.unit_fits i;
  factors_fit = λ k h. ×_prop le_prop le_prop (a.factors_fit k h) (b.factors_fit k h) i;
  moduli_fit = λ k h. ×_prop le_prop le_prop (a.moduli_fit k h) (b.moduli_fit k h) i;
  coprime = λ j k l h d p q. ℕ_set d 1 (a.coprime j k l h d p q) (b.coprime j k l h d p q) i;
  range_fits = le_prop a.range_fits b.range_fits i;
}

-- u divides every one of them, and each number that does divides u
pub record GreatestOf (ms : List ℕ) (u : ℕ) : Type 0 where
  pub common : (k : ℕ) → k < length ms → u ∣ slice_index_or ms k 0
  pub greatest : (d : ℕ) → ((k : ℕ) → k < length ms → d ∣ slice_index_or ms k 0) → d ∣ u

-- the unit and the factors that moduli have: their greatest common divisor, and the quotients
pub record Split (ms : List ℕ) (u : ℕ) (gs : List ℕ) : Type 0 where
  pub unit_is : GreatestOf ms u
  pub paired : length gs ≡ length ms
  pub quotients : (k : ℕ) → k < length ms → modulus_at u gs k ≡ slice_index ms k

-- position p has the remainder r in channel k
abbrev pub Leaves : (u : ℕ) → List ℕ → (p k r : ℕ) → Type 0
Leaves u gs p k r = r ≡ p % modulus_at u gs k

-- two positions below the range with the same remainders are one
abbrev pub OnePosition : (u : ℕ) → List ℕ → Type 0
OnePosition u gs = (p q : ℕ) → p < range_of u gs → q < range_of u gs → ((k : ℕ) → k < length gs → p % modulus_at u gs k ≡ q % modulus_at u gs k) → p ≡ q
