use Rattle.wv_code.specs.Checking.{RangeAtBreaks}
use Rattle.wv_code.proofs.LeastPlaces.{items_none, items_more, items_all}
use Rattle.wv_code.proofs.range_break.ranges_break.Goals as goal

pub loop-index-init : goal.loop-index-init
loop-index-init c = items_none (RangeAtBreaks c.args.pool.now c.args.offsets.now c.args.len c.args.base)

pub loop-index-preserved : goal.loop-index-preserved
loop-index-preserved c =
    items_more (RangeAtBreaks c.args.pool.now c.args.offsets.now c.args.len c.args.base) c.args.ranges.now c.loop-index.index (record { start = 0; end = 0; handler = 0; catch = 0 }) c.loop-index-test.true c.lesser-first.ensures c.loop-index.invariant c.range_break.ensures

pub returns : goal.returns
returns c = items_all (RangeAtBreaks c.args.pool.now c.args.offsets.now c.args.len c.args.base) c.args.ranges.now c.loop-index.index c.loop-index-test.false c.loop-index.invariant
