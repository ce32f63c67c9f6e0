use Rattle.std.proofs.Common.{◌≡◌, ◌+◌, arith, length, take, ap}
use Rattle.std.proofs.lemmas.List.{take_all}
use Rattle.wv_base.specs.Modified.{unit_spelling, spelling}
use Rattle.wv_pool.proofs.Entire.{flat_map-more, flat_map-front}
use Rattle.wv_pool.proofs.length.text_len.Goals as goal

pub overflow_add-len : goal.overflow_add-len
overflow_add-len c = omega (arith, c.loop-unit.invariant.small, c.unit_len-len.ensures.small)

pub returns-then-len-gt65535-clause-long : goal.returns-then-len-gt65535-clause-long
returns-then-len-gt65535-clause-long c =
    rw (← c.units-unit-items.ensures) (omega (arith, flat_map-more unit_spelling c.units-unit-items.result.now c.loop-unit.unit-index 0 c.loop-unit-test.true, flat_map-front unit_spelling c.units-unit-items.result.now (c.loop-unit.unit-index + 1), c.loop-unit.invariant.measured, c.unit_len-len.ensures.len, c.if-len-gt65535.true))

pub loop-unit-preserved : goal.loop-unit-preserved
loop-unit-preserved c = record {
  measured = omega (arith, flat_map-more unit_spelling c.units-unit-items.result.now c.loop-unit.unit-index 0 c.loop-unit-test.true, c.loop-unit.invariant.measured, c.unit_len-len.ensures.len);
  small = omega (arith, c.if-len-gt65535.false);
}

pub returns-clause-found : goal.returns-clause-found
returns-clause-found c =
    let all : take c.loop-unit.unit-index c.units-unit-items.result.now ≡ c.units-unit-items.result.now = take_all c.loop-unit.unit-index c.units-unit-items.result.now c.loop-unit-test.false in
    rw (← c.units-unit-items.ensures) (omega (arith, c.loop-unit.invariant.measured, ap (λ t. length (spelling t)) all))
