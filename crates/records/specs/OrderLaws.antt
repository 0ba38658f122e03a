-- The orders of this crate are total.
use Rattle.std.specs.Prelude.{◌≡◌, ℕ, Bool, true, false, cond, ◌⊎◌, ℤ, int_lt, nat_lt, ◌==◌, refl}
use Rattle.std.specs.declared.cmp.Ordering.{Ordering}
use Rattle.std.specs.declared.cmp.Ordering.TheVariants.{Less, Equal, Greater}
use Rattle.std.specs.Ordering.{nat_cmp, int_cmp, is_lt, is_gt, ordering_reverse}
use Rattle.std.specs.Cmp.{IsTotalOrder}
use Rattle.std.proofs.Common.{sym, ap, subst, ◌∙◌, inl, inr, ⊎_elim}
use Rattle.std.proofs.lemmas.Cmp.{upto, int_cmp_total}
use Rattle.std.proofs.lemmas.Bool.{both_ways}
use Rattle.records.specs.Orders.{Total, in_turn, lesser_by}

-- the lesser by a comparison, where that is a total order
turned : (r : Ordering) → is_lt r ≡ true → is_lt (ordering_reverse r) ≡ false
turned Less e = refl
turned Equal e = refl
turned Greater e = sym e

no_less : (r : Ordering) → is_gt (ordering_reverse r) ≡ is_lt r
no_less Less = refl
no_less Equal = refl
no_less Greater = refl

pub lesser_by_total : {K : Type 0} {R : K → K → Ordering} → IsTotalOrder R → Total (lesser_by R)
lesser_by_total {R = R} o = record {
  one_way = λ x y e. ap is_lt (o.antisymm y x) ∙ turned (R x y) e;
  chain = λ x y z e f. sym (no_less (R x z)) ∙ ap is_gt (sym (o.antisymm z x))
      ∙ upto o z y x (ap is_gt (o.antisymm z y) ∙ no_less (R y z) ∙ f) (ap is_gt (o.antisymm y x) ∙ no_less (R x y) ∙ e);
}

-- the comparison of numbers
pub lesser_by_nat : (x y : ℕ) → lesser_by nat_cmp x y ≡ nat_lt x y
lesser_by_nat x y = chosen (nat_lt x y) (x == y)
  where
    chosen : (a b : Bool) → is_lt (cond a Less (cond b Equal Greater)) ≡ a
    chosen true b = refl
    chosen false true = refl
    chosen false false = refl

pub lesser_by_int : (x y : ℤ) → lesser_by int_cmp x y ≡ int_lt x y
lesser_by_int x y = chosen (int_lt x y) (int_lt y x)
  where
    chosen : (a b : Bool) → is_lt (cond a Less (cond b Greater Equal)) ≡ a
    chosen true b = refl
    chosen false true = refl
    chosen false false = refl

-- the two are one order
pub lesser_by_is_nat_lt : lesser_by nat_cmp ≡ nat_lt
lesser_by_is_nat_lt = λ i x y. lesser_by_nat x y i

pub lesser_by_is_int_lt : lesser_by int_cmp ≡ int_lt
lesser_by_is_int_lt = λ i x y. lesser_by_int x y i

pub whole_total : Total int_lt
whole_total = subst (λ l. Total l) lesser_by_is_int_lt (lesser_by_total int_cmp_total)

-- how a test that asks the first order, and then the second, comes out
no_parts : (a b c : Bool) → cond a true (cond b false c) ≡ false → (a ≡ false) × (b ≡ false → c ≡ false)
no_parts true b c e = absurd (both_ways true e refl)
no_parts false true c e = (refl, λ f. absurd (both_ways true f refl))
no_parts false false c e = (refl, λ _. e)

no_from : (a b c : Bool) → a ≡ false → (b ≡ false → c ≡ false) → cond a true (cond b false c) ≡ false
no_from true b c e f = e
no_from false true c e f = refl
no_from false false c e f = f refl

yes_parts : (a b c : Bool) → cond a true (cond b false c) ≡ true → (a ≡ true) ⊎ ((b ≡ false) × (c ≡ true))
yes_parts true b c e = inl refl
yes_parts false true c e = absurd (both_ways false refl e)
yes_parts false false c e = inr (refl, e)

module _ {J K : Type 0} (f : J → J → Bool) (g : K → K → Bool) (p : Total f) (q : Total g) where
  turn_one_way : (x y : J × K) → in_turn f g x y ≡ true → in_turn f g y x ≡ false
  turn_one_way x y e =
      ⊎_elim
      (λ (a : f x.0 y.0 ≡ true). no_from (f y.0 x.0) (f x.0 y.0) (g y.1 x.1) (p.one_way x.0 y.0 a) (λ n. absurd (both_ways (f x.0 y.0) n a)))
      (λ (b : (f y.0 x.0 ≡ false) × (g x.1 y.1 ≡ true)). no_from (f y.0 x.0) (f x.0 y.0) (g y.1 x.1) b.0 (λ _. q.one_way x.1 y.1 b.1))
      (yes_parts (f x.0 y.0) (f y.0 x.0) (g x.1 y.1) e)

  turn_chain : (x y z : J × K) → in_turn f g x y ≡ false → in_turn f g y z ≡ false → in_turn f g x z ≡ false
  turn_chain x y z d e =
      let a = no_parts (f x.0 y.0) (f y.0 x.0) (g x.1 y.1) d in
      let b = no_parts (f y.0 z.0) (f z.0 y.0) (g y.1 z.1) e in
      no_from (f x.0 z.0) (f z.0 x.0) (g x.1 z.1)
      (p.chain x.0 y.0 z.0 a.0 b.0)
      (λ n. q.chain x.1 y.1 z.1
      (a.1 (p.chain y.0 z.0 x.0 b.0 n))
      (b.1 (p.chain z.0 x.0 y.0 n a.0)))

  pub in_turn_total : Total (in_turn f g)
  in_turn_total = record { one_way = turn_one_way; chain = turn_chain }
