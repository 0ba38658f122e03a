-- Channels that are read in turn, from 0 on. Assumes nothing.
use Rattle.std.specs.Prelude.{◌≡◌, ℕ, zero, suc, ◌+◌, List, [], ◌∷◌, map, Result}
use Rattle.heads.specs.Channels.{Channel}
use Rattle.banks.specs.declared.faults.BankFault.{BankFault}
use Rattle.banks.specs.Banks.{BankReads, channel_answer, read_on}

-- the channels once each of those below n was read
abbrev pub read_below : (n : ℕ) → List Channel → List Channel
read_below zero cs = cs
read_below (suc n) [] = []
read_below (suc n) (c ∷ cs) = read_on c ∷ read_below n cs

-- the channels once each was read
abbrev pub all_read : List Channel → List Channel
all_read cs = map read_on cs

-- once every channel below k was read, a read of k answers k's own first entry, as if no other had been read; and then every channel below k + 1 was read
abbrev pub TurnByTurn : Type 0
TurnByTurn = (k : ℕ) (cs : List Channel) (r : Result ℕ BankFault) (es : List Channel) → BankReads (read_below k cs) k r es → (r ≡ channel_answer k cs) × (es ≡ read_below (k + 1) cs)
