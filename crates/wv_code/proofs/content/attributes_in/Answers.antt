use Rattle.std.proofs.Common.{arith}
use Rattle.std.proofs.lemmas.Result.{err_from_is_err_and}
use Rattle.wv_code.specs.Reading.{attribute_at, times}
use Rattle.wv_code.proofs.Times.{goes_on, ends, is_done}
use Rattle.wv_code.proofs.content.attributes_in.Goals as goal

pub returns-in_err-one-clause-gives : goal.returns-in_err-one-clause-gives
returns-in_err-one-clause-gives c =
    let p = err_from_is_err_and c.from_residual.result c.from_residual.ensures.1 in
    rw (p.1, p.2) (ends (attribute_at c.args.pool.now) c.args.missing c.in_err-one.field-0.0 c.loop-place.attributes c.args.count c.loop-place.place c.loop-place.rest.now (times (attribute_at c.args.pool.now) c.args.count c.args.missing c.args.bytes.now) c.loop-place-test.true c.in_err-one.ensures.gives c.loop-place.invariant.gives)

pub loop-place-preserved : goal.loop-place-preserved
loop-place-preserved c = record {
  gives = rw c.in_ok-push.ensures.ok (goes_on (attribute_at c.args.pool.now) c.args.missing c.loop-place.attributes c.args.count c.loop-place.place c.loop-place.rest.now c.in_ok-one.one c.in_ok-one.after.now (times (attribute_at c.args.pool.now) c.args.count c.args.missing c.args.bytes.now) c.loop-place-test.true c.in_ok-one.ensures.gives c.loop-place.invariant.gives);
  shorter = omega (arith, c.in_ok-one.ensures.shorter, c.loop-place.invariant.shorter);
}

pub returns-clause-gives : goal.returns-clause-gives
returns-clause-gives c = is_done (attribute_at c.args.pool.now) c.args.missing c.loop-place.attributes c.args.count c.loop-place.place c.loop-place.rest.now (times (attribute_at c.args.pool.now) c.args.count c.args.missing c.args.bytes.now) c.loop-place-test.false c.loop-place.invariant.gives
