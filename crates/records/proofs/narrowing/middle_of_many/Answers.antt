use Rattle.std.proofs.Common.{refl, arith, rules}
use Rattle.std.specs.Option.{option_copied}
use Rattle.std.proofs.lemmas.Option.{slice_get_within}
use Rattle.records.proofs.Counts.{all_pass}
use Rattle.records.proofs.Nearing.{holds, nearer_low, nearer_high, no_items, first_of}
use Rattle.records.proofs.narrowing.middle_of_many.Goals as goal

pub loop-p-init : goal.loop-p-init
loop-p-init g c =
    let n = all_pass c.args.items.now in
    record { same = refl; low_holds = tt; high_holds = tt; many = λ h. (omega (arith, n), omega (arith, n)) }

pub loop-p-smaller-in-Less : goal.loop-p-smaller-in-Less
loop-p-smaller-in-Less g c =
    nearer_high g.O.Order.lesser g.met.O.Order.laws c.args.items.now (option_copied c.loop-p.narrowing.low) (option_copied c.loop-p.narrowing.high)
    c.in-Some.p c.in-Some.x.now (rw c.loop-p.invariant.same at c.in-Some.ensures.0) c.in-Some.ensures.1

pub loop-p-smaller : goal.loop-p-smaller
loop-p-smaller g c =
    nearer_low g.O.Order.lesser g.met.O.Order.laws c.args.items.now (option_copied c.loop-p.narrowing.low) (option_copied c.loop-p.narrowing.high)
    c.in-Some.p c.in-Some.x.now (rw c.loop-p.invariant.same at c.in-Some.ensures.0) c.in-Some.ensures.1

pub loop-p-preserved : goal.loop-p-preserved
loop-p-preserved g c = record {
  same = c.loop-p.invariant.same;
  low_holds = holds g.O.Order.lesser g.met.O.Order.laws c.args.items.now c.in-Some.p c.in-Some.x.now (rw c.loop-p.invariant.same at c.in-Some.ensures.0);
  high_holds = c.loop-p.invariant.high_holds;
  many = search rules;
}

pub loop-p-preserved-in-Less : goal.loop-p-preserved-in-Less
loop-p-preserved-in-Less g c = record {
  same = c.loop-p.invariant.same;
  low_holds = c.loop-p.invariant.low_holds;
  high_holds = holds g.O.Order.lesser g.met.O.Order.laws c.args.items.now c.in-Some.p c.in-Some.x.now (rw c.loop-p.invariant.same at c.in-Some.ensures.0);
  many = search rules;
}

pub first_equal-requires : goal.first_equal-requires
first_equal-requires g c = slice_get_within c.args.items.now c.in-Some.p c.in-Some.x.now (rw c.loop-p.invariant.same at c.in-Some.ensures.0)

pub returns-in-Equal : goal.returns-in-Equal
returns-in-Equal g c =
    first_of g.O.Order.lesser g.met.O.Order.laws c.args.items.now c.in-Some.p c.first_equal.result c.in-Some.x.now (rw c.loop-p.invariant.same at c.in-Some.ensures.0)
    (omega (arith, c.in-Equal.ensures.0, c.standing-below.ensures.below), omega (arith, c.in-Equal.ensures.1, c.standing-below.ensures.above))
    c.first_equal.ensures

pub returns : goal.returns
returns g c =
    no_items g.O.Order.lesser g.met.O.Order.laws c.args.items.now (option_copied c.loop-p.narrowing.low) (option_copied c.loop-p.narrowing.high)
    c.loop-p.invariant.many (rw c.loop-p.invariant.same at c.in_default.ensures)
