-- Each refusal's number and fields, and when it is the answer. Assumes nothing.
use Rattle.std.specs.Prelude.{◌≡◌, ℕ, suc, ◌^◌, ◌<◌, ◌≤◌, List, length, take, slice_index}
use Rattle.records.specs.declared.faults.Fault.{Fault}
use Rattle.residues.specs.Divisors.{Coprime, Greatest}
use Rattle.residues.specs.Products.{PairwiseCoprime}
use Rattle.settings.specs.declared.refusals.SettingRefusal.{SettingRefusal}
use Rattle.settings.specs.declared.refusals.SettingRefusal.TheVariants.{Count, Unit, Factor, Modulus, SharedDivisor, Range}
use Rattle.settings.specs.declared.refusals.RemainderRefusal.{RemainderRefusal}
use Rattle.settings.specs.declared.refusals.RemainderRefusal.TheVariants.{Position, Channel}
use Rattle.settings.specs.Settings.{Counted, UnitFits, FactorFits, ModulusFits, EachFromTo, Split, FromTo, range_of}

-- number, channel, and the two figures; the depth is 0
abbrev numbered : (n k a b : ℕ) → Fault
numbered n k a b = record { code = n; channel = k; depth = 0; first = a; second = b }

abbrev pub setting_fault : SettingRefusal → Fault
setting_fault Count = numbered 1 0 0 0
setting_fault Unit = numbered 2 0 0 0
setting_fault (Factor k) = numbered 3 k 0 0
setting_fault (Modulus k) = numbered 4 k 0 0
setting_fault (SharedDivisor j k d) = numbered 5 j k d
setting_fault (Range k) = numbered 6 k 0 0

abbrev pub remainder_fault : RemainderRefusal → Fault
remainder_fault Position = numbered 31 0 0 0
remainder_fault (Channel k) = numbered 23 k 0 0

-- k is the lowest of n channels at which P does not hold
abbrev pub FailsFirst : (P : ℕ → Type 0) (n k : ℕ) → Type 0
FailsFirst P n k = (k < n) × ((i : ℕ) → i < k → P i) × (P k → ⊥)

-- e tells the lowest of n channels at which P does not hold
abbrev pub TellsLowest : (P : ℕ → Type 0) (n : ℕ) → (ℕ → SettingRefusal) → SettingRefusal → Type 0
TellsLowest P n told e = (k : ℕ) × (e ≡ told k) × FailsFirst P n k

-- channels j and k share the divisor d, and no pair before them shares any: pairs go by the first channel, then by the second
pub record SharesFirst (gs : List ℕ) (j k d : ℕ) : Type 0 where
  pub in_order : j < k
  pub within : k < length gs
  pub divisor_is : Greatest (slice_index gs j) (slice_index gs k) d
  pub shared : d ≡ 1 → ⊥
  pub none_before : (i l : ℕ) → i < j → i < l → l < length gs → Coprime (slice_index gs i) (slice_index gs l)
  pub none_between : (l : ℕ) → j < l → l < k → Coprime (slice_index gs j) (slice_index gs l)

abbrev pub TellsShared : List ℕ → SettingRefusal → Type 0
TellsShared gs e = (j k d : ℕ) × (e ≡ SharedDivisor j k d) × SharesFirst gs j k d

-- the unit times the factors up to channel k first passes 2^40
pub record PassesFirst (u : ℕ) (gs : List ℕ) (k : ℕ) : Type 0 where
  pub within : k < length gs
  pub fits_before : range_of u (take k gs) ≤ 2 ^ 40
  pub passes : 2 ^ 40 < range_of u (take (suc k) gs)

abbrev pub TellsPassing : (u : ℕ) → List ℕ → SettingRefusal → Type 0
TellsPassing u gs e = (k : ℕ) × (e ≡ Range k) × PassesFirst u gs k

-- the first four checks of a unit and factors pass
pub record FourPass (u : ℕ) (gs : List ℕ) : Type 0 where
  pub counted : Counted gs
  pub unit_fits : UnitFits u
  pub factors_fit : (k : ℕ) → k < length gs → FactorFits gs k
  pub moduli_fit : (k : ℕ) → k < length gs → ModulusFits u gs k

-- the first check of a unit and factors that fails
abbrev pub Refuses : (u : ℕ) (gs : List ℕ) → SettingRefusal → Type 0
Refuses u gs Count = Counted gs → ⊥
Refuses u gs Unit = Counted gs × (UnitFits u → ⊥)
Refuses u gs (Factor k) = Counted gs × UnitFits u × FailsFirst (FactorFits gs) (length gs) k
Refuses u gs (Modulus k) = Counted gs × UnitFits u × ((i : ℕ) → i < length gs → FactorFits gs i) × FailsFirst (ModulusFits u gs) (length gs) k
Refuses u gs (SharedDivisor j k d) = FourPass u gs × SharesFirst gs j k d
Refuses u gs (Range k) = FourPass u gs × PairwiseCoprime gs × PassesFirst u gs k

-- the moduli pass their own checks, and their unit and factors are refused
abbrev pub SplitRefused : (ms : List ℕ) → SettingRefusal → Type 0
SplitRefused ms e = Counted ms × EachFromTo 1 (2 ^ 31) ms × ((u : ℕ) × (gs : List ℕ) × Split ms u gs × Refuses u gs e)

-- the first check of moduli that fails
abbrev pub ModuliRefused : (ms : List ℕ) → SettingRefusal → Type 0
ModuliRefused ms Count = Counted ms → ⊥
ModuliRefused ms (Modulus k) = Counted ms × FailsFirst (λ i. FromTo 1 (2 ^ 31) (slice_index ms i)) (length ms) k
ModuliRefused ms Unit = SplitRefused ms Unit
ModuliRefused ms (Factor k) = SplitRefused ms (Factor k)
ModuliRefused ms (SharedDivisor j k d) = SplitRefused ms (SharedDivisor j k d)
ModuliRefused ms (Range k) = SplitRefused ms (Range k)
