use Rattle.std.proofs.Common.{◌≡◌, ◌<◌, length, ap, ◌∙◌, arith, below_more}
use Rattle.std.proofs.lemmas.List.{length_push}
use Rattle.settings.specs.Told.{factors_of}
use Rattle.unfolding.proofs.Rows.{counted_triple}
use Rattle.unfolding.proofs.checks.check.Goals as goal

pub overflow_mul-quadruple : goal.overflow_mul-quadruple
overflow_mul-quadruple c =
    let (t, modulus) = counted_triple c.args.bounds.now c.args.readings.now c.moduli.result.now c.into_iter-channel-iterator.result c.loop-channel.channel-iterator c.next.new.self c.loop-channel.yielded c.next.result
    (cc) (cc) (cc) (cc) c.loop-channel.yielded_by c.next.ensures.steps c.in-Some.is in
    omega (arith, t.first_is 0, c.type_inv.bounds (length c.loop-channel.yielded))

pub returns-then-quadruple-from-clause-checked : goal.returns-then-quadruple-from-clause-checked
returns-then-quadruple-from-clause-checked c =
    let (t, modulus) = counted_triple c.args.bounds.now c.args.readings.now c.moduli.result.now c.into_iter-channel-iterator.result c.loop-channel.channel-iterator c.next.new.self c.loop-channel.yielded c.next.result
    (cc) (cc) (cc) (cc) c.loop-channel.yielded_by c.next.ensures.steps c.in-Some.is in
    let rs : length c.args.readings.now ≡ length (factors_of c.args.setting.now) = omega (arith, ap length c.factors-channels.ensures.told) in
    let ts : length c.args.bounds.now ≡ length (factors_of c.args.setting.now) = omega (arith, ap length c.factors-channels.ensures.told) in
    let h : length c.loop-channel.yielded < length (factors_of c.args.setting.now) = omega (arith, t.in_first, ap length c.factors-channels.ensures.told) in
    rw t.counts (
      (record { readings_paired = rs; bounds_paired = ts }, h, c.loop-channel.invariant),
      omega (arith, t.first_is 0, c.unit-unit.ensures),
      omega (arith, t.first_is 0),
      c.unit-unit.ensures,
    )

pub returns-then-reading-modulus-clause-checked : goal.returns-then-reading-modulus-clause-checked
returns-then-reading-modulus-clause-checked c =
    let (t, modulus) = counted_triple c.args.bounds.now c.args.readings.now c.moduli.result.now c.into_iter-channel-iterator.result c.loop-channel.channel-iterator c.next.new.self c.loop-channel.yielded c.next.result
    (cc) (cc) (cc) (cc) c.loop-channel.yielded_by c.next.ensures.steps c.in-Some.is in
    let rs : length c.args.readings.now ≡ length (factors_of c.args.setting.now) = omega (arith, ap length c.factors-channels.ensures.told) in
    let ts : length c.args.bounds.now ≡ length (factors_of c.args.setting.now) = omega (arith, ap length c.factors-channels.ensures.told) in
    let h : length c.loop-channel.yielded < length (factors_of c.args.setting.now) = omega (arith, t.in_first, ap length c.factors-channels.ensures.told) in
    let is = modulus 0 ∙ c.moduli.ensures.is _ h in
    rw t.counts (
      (record { readings_paired = rs; bounds_paired = ts }, h, c.loop-channel.invariant),
      omega (arith, t.first_is 0, c.unit-unit.ensures),
      omega (arith, t.second_is 0, is),
      t.second_is 0,
      is,
    )

pub loop-channel-preserved : goal.loop-channel-preserved
loop-channel-preserved c =
    let (t, modulus) = counted_triple c.args.bounds.now c.args.readings.now c.moduli.result.now c.into_iter-channel-iterator.result c.loop-channel.channel-iterator c.next.new.self c.loop-channel.yielded c.next.result
    (cc) (cc) (cc) (cc) c.loop-channel.yielded_by c.next.ensures.steps c.in-Some.is in
    let h : length c.loop-channel.yielded < length (factors_of c.args.setting.now) = omega (arith, t.in_first, ap length c.factors-channels.ensures.told) in
    let is = modulus 0 ∙ c.moduli.ensures.is _ h in
    rw (length_push c.loop-channel.yielded (c.in-Some.channel, ((c.in-Some.field-0-1-0-0, c.in-Some.field-0-1-0-1), c.in-Some.field-0-1-1)))
    (below_more _ _ c.loop-channel.invariant (record { narrow = omega (arith, t.first_is 0, c.unit-unit.ensures); tame = omega (arith, t.second_is 0, is) }))
