-- A joined bank keeps the laws of a bank. Assumes nothing.
use Rattle.std.specs.Prelude.{◌+◌, Bool, true, false, List, ◌++◌, length, nat_le}
use Rattle.std.proofs.ByRecursion.{All-append}
use Rattle.heads.specs.Channels.{Channel}
use Rattle.heads.specs.Laws.{Lawful}
use Rattle.banks.specs.Banks.{AllLawful}
use Rattle.banks.specs.JoinedBanks.{both, if_few}

lawful_append : (cs ds : List Channel) → AllLawful cs → AllLawful ds → AllLawful (cs ++ ds)
lawful_append cs ds p q = All-append (λ (c : Channel). Lawful c.figures c.waits) cs ds p q

lawful_if_few : (t : Bool) (cs : List Channel) → AllLawful cs → AllLawful (if_few t cs)
lawful_if_few true cs p = p
lawful_if_few false cs p = tt

pub both_laws : (cs ds : List Channel) → AllLawful cs → AllLawful ds → AllLawful (both cs ds)
both_laws cs ds p q = lawful_if_few (nat_le (length cs + length ds) 8) (cs ++ ds) (lawful_append cs ds p q)
