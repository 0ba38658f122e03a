-- Each refusal's number and fields, and when it is the answer. Assumes nothing.
use Rattle.std.specs.Prelude.{◌≡◌, ℕ, ◌*◌, ◌<◌, ◌≤◌, List, length, ℤ, pos, ◌-ℤ◌, ◌<ℤ◌, Ok, Err, Result, ◌≢◌, slice_index, slice_index_or}
use Rattle.records.specs.declared.faults.Fault.{Fault}
use Rattle.settings.specs.Settings.{modulus_at, range_of}
use Rattle.unfolding.specs.declared.refusals.UnfoldRefusal.{UnfoldRefusal}
use Rattle.unfolding.specs.declared.refusals.UnfoldRefusal.TheVariants.{Readings, Bounds, WideBound, Wild, Contradictory}
use Rattle.unfolding.specs.Channels.{GreatestAt, LeastAt}
use Rattle.unfolding.specs.Folds.{FoldsWell}
use Rattle.unfolding.specs.Brackets.{Allowed, NoPosition, low_at, high_at}

-- number, channel, and the two figures; the depth is 0
abbrev numbered : (n k a b : ℕ) → Fault
numbered n k a b = record { code = n; channel = k; depth = 0; first = a; second = b }

abbrev pub unfold_fault : UnfoldRefusal → Fault
unfold_fault (Readings c k) = numbered 13 0 c k
unfold_fault (Bounds c k) = numbered 13 0 c k
unfold_fault (WideBound k x u) = numbered 15 k x u
unfold_fault (Wild k r m) = numbered 25 k r m
unfold_fault (Contradictory k x l) = numbered 16 k x l

-- channel k's bound is under a quarter of the unit, and its reading below its modulus
pub record FineAt (u : ℕ) (gs rs ts : List ℕ) (k : ℕ) : Type 0 where
  pub narrow : 4 * slice_index ts k < u
  pub tame : slice_index_or rs k 0 < modulus_at u gs k

-- one reading and one bound for each channel
pub record Paired (gs rs ts : List ℕ) : Type 0 where
  pub readings_paired : length rs ≡ length gs
  pub bounds_paired : length ts ≡ length gs

-- channel k is the first that is not fine
abbrev FirstAt : (u : ℕ) (gs rs ts : List ℕ) (k : ℕ) → Type 0
FirstAt u gs rs ts k = Paired gs rs ts × (k < length gs) × ((i : ℕ) → i < k → FineAt u gs rs ts i)

-- every check of the readings and bounds passes
pub record AllFine (u : ℕ) (gs rs ts : List ℕ) : Type 0 where
  pub paired : Paired gs rs ts
  pub fine : (k : ℕ) → k < length gs → FineAt u gs rs ts k

-- no position is allowed: lo exceeds hi by x, and k and l are the lowest channels that give them
pub record Contradicts (u : ℕ) (gs rs ts : List ℕ) (k x l : ℕ) : Type 0 where
  pub checked : AllFine u gs rs ts
  pub n : ℕ
  pub folds_well : FoldsWell u gs rs n
  pub lo : ℤ
  pub hi : ℤ
  pub lo_at : GreatestAt (length gs) (low_at u gs rs ts n) lo k
  pub hi_at : LeastAt (length gs) (high_at u gs rs ts n) hi l
  pub exceeds : hi <ℤ lo
  pub excess_is : pos x ≡ lo -ℤ hi
  pub none : NoPosition (range_of u gs) (Allowed u gs rs ts)

-- the first check that fails
abbrev pub UnfoldRefused : (u : ℕ) (gs rs ts : List ℕ) → UnfoldRefusal → Type 0
UnfoldRefused u gs rs ts (Readings c k) = (length rs ≢ length gs) × (c ≡ length rs) × (k ≡ length gs)
UnfoldRefused u gs rs ts (Bounds c k) = (length rs ≡ length gs) × (length ts ≢ length gs) × (c ≡ length ts) × (k ≡ length gs)
UnfoldRefused u gs rs ts (WideBound k x m) = FirstAt u gs rs ts k × (u ≤ 4 * slice_index ts k) × (x ≡ 4 * slice_index ts k) × (m ≡ u)
UnfoldRefused u gs rs ts (Wild k r m) = FirstAt u gs rs ts k × (4 * slice_index ts k < u) × (modulus_at u gs k ≤ slice_index rs k) × (r ≡ slice_index rs k) × (m ≡ modulus_at u gs k)
UnfoldRefused u gs rs ts (Contradictory k x l) = Contradicts u gs rs ts k x l

-- what the checks answer, before anything is unfolded
abbrev pub Checked : (u : ℕ) (gs rs ts : List ℕ) → Result (Unit {0}) UnfoldRefusal → Type 0
Checked u gs rs ts (Ok _) = AllFine u gs rs ts
Checked u gs rs ts (Err e) = UnfoldRefused u gs rs ts e
