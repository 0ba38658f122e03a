-- Each refusal of a bank as a record, and a refusal carried to another channel. Assumes nothing.
use Rattle.std.specs.Prelude.{ℕ}
use Rattle.records.specs.declared.faults.Fault.{Fault}
use Rattle.heads.specs.Answers.{head_fault}
use Rattle.banks.specs.declared.faults.BankFault.{BankFault}
use Rattle.banks.specs.declared.faults.BankFault.TheVariants.{NoSuchChannel, Refused}

-- no such channel is 23; a refused read has its head's number, depth and figures
abbrev pub bank_fault : BankFault → Fault
bank_fault (NoSuchChannel k) = record { code = 23; channel = k; depth = 0; first = 0; second = 0 }
bank_fault (Refused k f) = head_fault k f

-- the same refusal, of channel k
abbrev pub at_channel : (k : ℕ) → BankFault → BankFault
at_channel k (NoSuchChannel j) = NoSuchChannel k
at_channel k (Refused j f) = Refused k f
