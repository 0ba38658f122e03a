-- A bank as the list of its channels: what one channel tells, answers when it is read, and leaves. Assumes nothing.
use Rattle.std.specs.Prelude.{◌≡◌, ℕ, zero, suc, List, [], ◌∷◌, Some, None, Ok, Err, Option, Result}
use Rattle.std.specs.List.{AllByRecursion, slice_get}
use Rattle.heads.specs.declared.faults.HeadFault.{HeadFault}
use Rattle.heads.specs.declared.plates.Figures.{Figures}
use Rattle.heads.specs.Answers.{answer_of, rest}
use Rattle.heads.specs.Channels.{Channel, channel_of}
use Rattle.heads.specs.Laws.{Lawful}
use Rattle.banks.specs.declared.faults.BankFault.{BankFault}
use Rattle.banks.specs.declared.faults.BankFault.TheVariants.{NoSuchChannel, Refused}

-- channel k, where there is one
abbrev pub channel_at : (k : ℕ) → List Channel → Option Channel
channel_at k cs = slice_get cs k

-- the figures that channel k tells
abbrev pub told_by : (k : ℕ) → Option Channel → Result Figures BankFault
told_by k None = Err (NoSuchChannel k)
told_by k (Some c) = Ok c.figures

abbrev pub channel_figures : (k : ℕ) → List Channel → Result Figures BankFault
channel_figures k cs = told_by k (channel_at k cs)

-- what a head answers, as channel k's answer
abbrev pub of_channel : (k : ℕ) → Result ℕ HeadFault → Result ℕ BankFault
of_channel k (Ok r) = Ok r
of_channel k (Err f) = Err (Refused k f)

-- what channel k answers when it is read
abbrev pub answered_by : (k : ℕ) → Option Channel → Result ℕ BankFault
answered_by k None = Err (NoSuchChannel k)
answered_by k (Some c) = of_channel k (answer_of c.figures.fit c.figures.depth c.waits)

abbrev pub channel_answer : (k : ℕ) → List Channel → Result ℕ BankFault
channel_answer k cs = answered_by k (channel_at k cs)

-- a channel once it was read: its first entry is taken
abbrev pub read_on : Channel → Channel
read_on c = channel_of c.figures (rest c.waits)

-- the channels once channel k was read
abbrev pub channel_rest : (k : ℕ) → List Channel → List Channel
channel_rest k [] = []
channel_rest zero (c ∷ cs) = read_on c ∷ cs
channel_rest (suc k) (c ∷ cs) = c ∷ channel_rest k cs

-- a bank of channels cs is read at channel k, answers r, and then has channels ds
pub record BankReads (cs : List Channel) (k : ℕ) (r : Result ℕ BankFault) (ds : List Channel) : Type 0 where
  pub answers : r ≡ channel_answer k cs
  pub leaves : ds ≡ channel_rest k cs

-- the laws of a head hold of every channel
abbrev pub AllLawful : List Channel → Type 0
AllLawful cs = AllByRecursion (λ c. Lawful c.figures c.waits) cs

abbrev pub BankLaws : {S : Type 0} → (channels : S → List Channel) → Type 0
BankLaws {S} channels = (s : S) → AllLawful (channels s)
