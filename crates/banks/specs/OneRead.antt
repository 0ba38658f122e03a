-- One channel of a bank was read, said of each channel by itself. Assumes nothing.
use Rattle.std.specs.Prelude.{◌≡◌, ℕ, ◌<◌, ◌≤◌, List, length, Some, Ok, Err, Result, ◌≢◌}
use Rattle.heads.specs.declared.faults.HeadFault.{HeadFault}
use Rattle.heads.specs.declared.plates.Figures.{Figures}
use Rattle.heads.specs.Answers.{Reads}
use Rattle.heads.specs.Channels.{Channel}
use Rattle.banks.specs.declared.faults.BankFault.{BankFault}
use Rattle.banks.specs.declared.faults.BankFault.TheVariants.{NoSuchChannel}
use Rattle.banks.specs.Banks.{channel_at, channel_figures, of_channel}

-- channel k was read as a head is read: it was c, answered r, and is then d
pub record ReadAsHead (k : ℕ) (c : Channel) (r : Result ℕ BankFault) (d : Channel) : Type 0 where
  pub answer : Result ℕ HeadFault
  pub reads : Reads c.figures c.waits answer d.figures d.waits
  pub told : r ≡ of_channel k answer

-- of the channels cs, which are then ds, only k was read, and answered r
pub record OneRead (cs : List Channel) (k : ℕ) (r : Result ℕ BankFault) (ds : List Channel) : Type 0 where
  pub as_many : length ds ≡ length cs
  pub others : (j : ℕ) → (j ≢ k) → channel_at j ds ≡ channel_at j cs
  pub here : k < length cs → (c : Channel) × (d : Channel) × (channel_at k cs ≡ Some c) × (channel_at k ds ≡ Some d) × ReadAsHead k c r d
  pub past : length cs ≤ k → (r ≡ Err (NoSuchChannel k)) × (ds ≡ cs)

-- a reading r of channel k is below the modulus that the channel tells
abbrev pub ReadingBelow : (cs : List Channel) (k : ℕ) (r : Result ℕ BankFault) → Type 0
ReadingBelow cs k r = (f : Figures) (x : ℕ) → channel_figures k cs ≡ Ok f → r ≡ Ok x → x < f.modulus
