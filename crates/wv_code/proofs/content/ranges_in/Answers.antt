use Rattle.std.proofs.Common.{arith}
use Rattle.std.proofs.lemmas.Result.{err_from_is_err_and}
use Rattle.wv_code.specs.Reading.{range_at, times}
use Rattle.wv_code.proofs.Times.{goes_on, ends, is_done}
use Rattle.wv_code.proofs.content.ranges_in.Goals as goal

pub returns-in_err-range-clause-gives : goal.returns-in_err-range-clause-gives
returns-in_err-range-clause-gives c =
    let p = err_from_is_err_and c.from_residual.result c.from_residual.ensures.1 in
    rw (p.1, p.2) (ends (λ left missing. range_at) c.args.missing c.in_err-range.field-0.0 c.loop.ranges c.args.count c.loop.counter c.loop.rest.now (times (λ left missing. range_at) c.args.count c.args.missing c.args.bytes.now) c.loop-test.true c.in_err-range.ensures.gives c.loop.invariant.gives)

pub loop-preserved : goal.loop-preserved
loop-preserved c = record {
  gives = rw c.in_ok-push.ensures.ok (goes_on (λ left missing. range_at) c.args.missing c.loop.ranges c.args.count c.loop.counter c.loop.rest.now c.in_ok-range.range c.in_ok-range.after.now (times (λ left missing. range_at) c.args.count c.args.missing c.args.bytes.now) c.loop-test.true c.in_ok-range.ensures.gives c.loop.invariant.gives);
  shorter = omega (arith, c.in_ok-range.ensures.shorter, c.loop.invariant.shorter);
}

pub returns-clause-gives : goal.returns-clause-gives
returns-clause-gives c = is_done (λ left missing. range_at) c.args.missing c.loop.ranges c.args.count c.loop.counter c.loop.rest.now (times (λ left missing. range_at) c.args.count c.args.missing c.args.bytes.now) c.loop-test.false c.loop.invariant.gives
