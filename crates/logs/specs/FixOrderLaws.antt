-- The order of fixes is total. Assumes nothing.
use Rattle.std.specs.Prelude.{Bool, nat_lt}
use Rattle.std.proofs.Common.{subst}
use Rattle.std.proofs.lemmas.Cmp.{nat_cmp_total}
use Rattle.records.specs.Orders.{Total}
use Rattle.records.specs.OrderLaws.{in_turn_total, lesser_by_total, lesser_by_is_nat_lt}
use Rattle.logs.specs.FixOrder.{fix_key, fix_lesser, key_lesser}

pub rising_total : Total nat_lt
rising_total = subst (λ l. Total l) lesser_by_is_nat_lt (lesser_by_total nat_cmp_total)

-- items in the order of their keys
keyed_total : {J K : Type 0} (key : J → K) (lesser : K → K → Bool) → Total lesser → Total (λ x y. lesser (key x) (key y))
keyed_total key lesser o = record {
  one_way = λ x y. o.one_way (key x) (key y);
  chain = λ x y z. o.chain (key x) (key y) (key z);
}

pub fix_total : Total fix_lesser
fix_total = keyed_total fix_key key_lesser (in_turn_total nat_lt nat_lt rising_total rising_total)
