-- Where a channel of two joined banks stands, in the words of their lists.
use Rattle.std.proofs.Common.{◌≡◌, ℕ, zero, suc, ◌+◌, ◌<◌, ◌≤◌, Bool, true, false, leb, List, [], ◌∷◌, ◌++◌, length, Some, None, Ok, Err, Option, Result, sym, refl, ap, ◌∙◌, arith, length-append, le-leb}
use borrow.Author.Tests.{lt-leb}
use Rattle.std.proofs.lemmas.Option.{slice_get_past}
use Rattle.heads.specs.declared.faults.HeadFault.{HeadFault}
use Rattle.heads.specs.Channels.{Channel}
use Rattle.banks.specs.declared.faults.BankFault.{BankFault}
use Rattle.banks.specs.declared.faults.BankFault.TheVariants.{NoSuchChannel}
use Rattle.banks.specs.Banks.{channel_at, channel_rest, told_by, answered_by, of_channel}
use Rattle.banks.specs.JoinedBanks.{both, if_few, joined_count, count_if_few}
use Rattle.banks.specs.JoinedPlaces.{carried, InFirst, InSecond, InNeither, Stands, Placed}
use Rattle.banks.proofs.Reading.{rest_length, rest_none}

pub both_few : (cs ds : List Channel) → length cs + length ds ≤ 8 → both cs ds ≡ cs ++ ds
both_few cs ds h = rw (le-leb (length cs + length ds) 8 h)

pub both_many : (cs ds : List Channel) → 8 < length cs + length ds → both cs ds ≡ []
both_many cs ds h = rw (lt-leb (length cs + length ds) 8 h)

pub both_count : (cs ds : List Channel) → length (both cs ds) ≡ joined_count (length cs) (length ds)
both_count cs ds = counted (leb (length cs + length ds) 8) where
  counted : (t : Bool) → length (if_few t (cs ++ ds)) ≡ count_if_few t (length cs + length ds)
  counted true = length-append cs ds
  counted false = refl

at_first : (k : ℕ) (cs ds : List Channel) → k < length cs → channel_at k (cs ++ ds) ≡ channel_at k cs
at_first k [] ds h = absurd (omega arith)
at_first zero (c ∷ cs) ds h = refl
at_first (suc k) (c ∷ cs) ds h = at_first k cs ds (omega arith)

at_second : (k j : ℕ) (cs ds : List Channel) → length cs + j ≡ k → channel_at k (cs ++ ds) ≡ channel_at j ds
at_second k j [] ds e = ap (λ i. channel_at i ds) (omega arith)
at_second zero j (c ∷ cs) ds e = absurd (omega arith)
at_second (suc k) j (c ∷ cs) ds e = at_second k j cs ds (omega arith)

rest_first : (k : ℕ) (cs ds : List Channel) → k < length cs → channel_rest k (cs ++ ds) ≡ channel_rest k cs ++ ds
rest_first k [] ds h = absurd (omega arith)
rest_first zero (c ∷ cs) ds h = refl
rest_first (suc k) (c ∷ cs) ds h = ap (λ l. c ∷ l) (rest_first k cs ds (omega arith))

rest_second : (k j : ℕ) (cs ds : List Channel) → length cs + j ≡ k → channel_rest k (cs ++ ds) ≡ cs ++ channel_rest j ds
rest_second k j [] ds e = ap (λ i. channel_rest i ds) (omega arith)
rest_second zero j (c ∷ cs) ds e = absurd (omega arith)
rest_second (suc k) j (c ∷ cs) ds e = ap (λ l. c ∷ l) (rest_second k j cs ds (omega arith))

-- the answer of another channel, carried to k, is as k's own
told_carried : (k j : ℕ) (o : Option Channel) → told_by k o ≡ carried k (told_by j o)
told_carried k j None = refl
told_carried k j (Some c) = refl

of_channel_carried : (k j : ℕ) (r : Result ℕ HeadFault) → of_channel k r ≡ carried k (of_channel j r)
of_channel_carried k j (Ok r) = refl
of_channel_carried k j (Err f) = refl

answered_carried : (k j : ℕ) (o : Option Channel) → answered_by k o ≡ carried k (answered_by j o)
answered_carried k j None = refl
answered_carried k j (Some c) = of_channel_carried k j _

module _ (cs ds : List Channel) (k : ℕ) where
  in_first : length cs + length ds ≤ 8 → k < length cs → InFirst cs ds k
  in_first few h =
      let is : both cs ds ≡ cs ++ ds = both_few cs ds few in
      let n : length (channel_rest k cs) ≡ length cs = rest_length k cs in
      let same : channel_at k (both cs ds) ≡ channel_at k cs = ap (channel_at k) is ∙ at_first k cs ds h in
      record {
        tells = ap (told_by k) same;
        answers = ap (answered_by k) same;
        leaves = ap (channel_rest k) is ∙ rest_first k cs ds h ∙ sym (both_few (channel_rest k cs) ds (omega arith));
      }

  in_second : (j : ℕ) → length cs + length ds ≤ 8 → length cs + j ≡ k → InSecond cs ds k j
  in_second j few e =
      let is : both cs ds ≡ cs ++ ds = both_few cs ds few in
      let n : length (channel_rest j ds) ≡ length ds = rest_length j ds in
      let same : channel_at k (both cs ds) ≡ channel_at j ds = ap (channel_at k) is ∙ at_second k j cs ds e in
      record {
        tells = ap (told_by k) same ∙ told_carried k j (channel_at j ds);
        answers = ap (answered_by k) same ∙ answered_carried k j (channel_at j ds);
        leaves = ap (channel_rest k) is ∙ rest_second k j cs ds e ∙ sym (both_few cs (channel_rest j ds) (omega arith));
      }

  in_neither : (e : BankFault) → joined_count (length cs) (length ds) ≤ k → e ≡ NoSuchChannel k → InNeither cs ds k e
  in_neither e h q =
      let past : length (both cs ds) ≤ k = rw (both_count cs ds) h in
      record { none = slice_get_past (both cs ds) k past; leaves = rest_none k (both cs ds) past; refused = q }

  pub placed : (p : Result (Option ℕ) BankFault) → Stands (length cs) (length ds) k p → Placed cs ds k p
  placed (Ok None) s = in_first s.0 s.1
  placed (Ok (Some j)) s = in_second j s.0 s.1
  placed (Err e) s = in_neither e s.0 s.1
