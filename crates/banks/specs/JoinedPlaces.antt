-- Where a channel of two joined banks stands, and how their lists are one there. Assumes nothing.
use Rattle.std.specs.Prelude.{◌≡◌, ℕ, ◌+◌, ◌<◌, ◌≤◌, List, Some, None, Ok, Err, Option, Result}
use Rattle.heads.specs.Channels.{Channel}
use Rattle.banks.specs.declared.faults.BankFault.{BankFault}
use Rattle.banks.specs.declared.faults.BankFault.TheVariants.{NoSuchChannel}
use Rattle.banks.specs.Faults.{at_channel}
use Rattle.banks.specs.Banks.{channel_at, channel_figures, channel_answer, channel_rest}
use Rattle.banks.specs.JoinedBanks.{both, joined_count}

-- where channel k of banks of m and n channels stands: in the first, or as which channel of the second; or that there is none
abbrev pub Stands : (m n k : ℕ) → Result (Option ℕ) BankFault → Type 0
Stands m n k (Ok None) = (m + n ≤ 8) × (k < m)
Stands m n k (Ok (Some j)) = (m + n ≤ 8) × (m + j ≡ k)
Stands m n k (Err e) = (joined_count m n ≤ k) × (e ≡ NoSuchChannel k)

-- an answer carried to channel k
abbrev pub carried : {X : Type 0} → (k : ℕ) → Result X BankFault → Result X BankFault
carried k (Ok x) = Ok x
carried k (Err e) = Err (at_channel k e)

-- channel k of both is channel k of the first
pub record InFirst (cs ds : List Channel) (k : ℕ) : Type 0 where
  pub tells : channel_figures k (both cs ds) ≡ channel_figures k cs
  pub answers : channel_answer k (both cs ds) ≡ channel_answer k cs
  pub leaves : channel_rest k (both cs ds) ≡ both (channel_rest k cs) ds

-- channel k of both is channel j of the second
pub record InSecond (cs ds : List Channel) (k j : ℕ) : Type 0 where
  pub tells : channel_figures k (both cs ds) ≡ carried k (channel_figures j ds)
  pub answers : channel_answer k (both cs ds) ≡ carried k (channel_answer j ds)
  pub leaves : channel_rest k (both cs ds) ≡ both cs (channel_rest j ds)

-- both have no channel k
pub record InNeither (cs ds : List Channel) (k : ℕ) (e : BankFault) : Type 0 where
  pub none : channel_at k (both cs ds) ≡ None
  pub leaves : channel_rest k (both cs ds) ≡ both cs ds
  pub refused : e ≡ NoSuchChannel k

abbrev pub Placed : (cs ds : List Channel) (k : ℕ) → Result (Option ℕ) BankFault → Type 0
Placed cs ds k (Ok None) = InFirst cs ds k
Placed cs ds k (Ok (Some j)) = InSecond cs ds k j
Placed cs ds k (Err e) = InNeither cs ds k e
