-- Channels are read in turn from 0 on: each answers as if no other had been read.
use Rattle.std.proofs.Common.{◌≡◌, ℕ, zero, suc, ◌+◌, ◌≤◌, List, [], ◌∷◌, length, Result, refl, ap, ◌∙◌, add-one, arith}
use Rattle.heads.specs.Channels.{Channel}
use Rattle.banks.specs.declared.faults.BankFault.{BankFault}
use Rattle.banks.specs.Banks.{channel_at, channel_answer, channel_rest, answered_by, read_on, BankReads}
use Rattle.banks.specs.Rounds.{TurnByTurn, read_below, all_read}

at_turn : (k : ℕ) (cs : List Channel) → channel_at k (read_below k cs) ≡ channel_at k cs
at_turn zero cs = refl
at_turn (suc k) [] = refl
at_turn (suc k) (c ∷ cs) = at_turn k cs

rest_at_turn : (k : ℕ) (cs : List Channel) → channel_rest k (read_below k cs) ≡ read_below (suc k) cs
rest_at_turn zero [] = refl
rest_at_turn zero (c ∷ cs) = refl
rest_at_turn (suc k) [] = refl
rest_at_turn (suc k) (c ∷ cs) = ap (λ l. read_on c ∷ l) (rest_at_turn k cs)

-- once every channel below k was read, k answers its own first entry
pub turn_answers : (k : ℕ) (cs ds : List Channel) (r : Result ℕ BankFault) (es : List Channel) → ds ≡ read_below k cs → BankReads ds k r es → r ≡ channel_answer k cs
turn_answers k cs ds r es e b = b.answers ∙ ap (channel_answer k) e ∙ ap (answered_by k) (at_turn k cs)

-- and then every channel below k + 1 was read
pub turn_leaves : (k : ℕ) (cs ds : List Channel) (r : Result ℕ BankFault) (es : List Channel) → ds ≡ read_below k cs → BankReads ds k r es → es ≡ read_below (k + 1) cs
turn_leaves k cs ds r es e b = rw add-one (b.leaves ∙ ap (channel_rest k) e ∙ rest_at_turn k cs)

pub turns_end : (n : ℕ) (cs : List Channel) → length cs ≤ n → read_below n cs ≡ all_read cs
turns_end zero [] h = refl
turns_end zero (c ∷ cs) h = absurd (omega arith)
turns_end (suc n) [] h = refl
turns_end (suc n) (c ∷ cs) h = ap (λ l. read_on c ∷ l) (turns_end n cs (omega arith))

pub turns_length : (n : ℕ) (cs : List Channel) → length (read_below n cs) ≡ length cs
turns_length zero cs = refl
turns_length (suc n) [] = refl
turns_length (suc n) (c ∷ cs) = ap suc (turns_length n cs)

pub turn_by_turn : TurnByTurn
turn_by_turn k cs r es b = (turn_answers k cs (read_below k cs) r es refl b, turn_leaves k cs (read_below k cs) r es refl b)
