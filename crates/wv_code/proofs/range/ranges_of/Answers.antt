use Rattle.wv_code.proofs.Ranges.{ranges_on}
use Rattle.wv_code.proofs.range.ranges_of.Goals as goal

pub loop-raw-preserved : goal.loop-raw-preserved
loop-raw-preserved c =
    rw c.in_ok-push.ensures.ok
    (ranges_on c.args.pool.now c.args.offsets.now c.args.len c.args.raws.now c.loop-raw.raw-index (record { start = 0; end = 0; handler = 0; catch = 0 }) c.loop-raw.ranges c.in_ok-range_of.field-0 c.loop-raw-test.true c.loop-raw.invariant
    c.in_ok-range_of.ensures)
