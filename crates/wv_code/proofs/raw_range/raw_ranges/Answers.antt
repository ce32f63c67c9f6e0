use Rattle.wv_pool.specs.Numbers.{Named}
use Rattle.wv_code.specs.BodyConstants.{range_constants}
use Rattle.wv_code.specs.Content.{IsRange}
use Rattle.wv_code.proofs.Lists.{AllByRecursion-push}
use Rattle.wv_code.proofs.Written.{constants_at}
use Rattle.wv_code.proofs.RawRanges.{ranges_on}
use Rattle.wv_code.proofs.raw_range.raw_ranges.Goals as goal

pub raw_range-requires-clause-named : goal.raw_range-requires-clause-named
raw_range-requires-clause-named c =
    rw c.range-item.is (constants_at (Named c.args.pool.now) range_constants c.args.ranges.now c.loop-range.range-index c.range-item.result c.loop-range-test.true c.requires.named)

pub loop-range-preserved : goal.loop-range-preserved
loop-range-preserved c =
    rw c.in_ok-push.ensures.ok (record {
      of = ranges_on c.args.pool.now c.args.layout.now.offsets c.args.layout.now.len c.loop-range.raws c.args.ranges.now c.loop-range.range-index c.in_ok-raw_range.field-0 c.range-item.result c.loop-range-test.true c.loop-range.invariant.of
          (rw (← c.range-item.is) c.in_ok-raw_range.ensures.of);
      fit = AllByRecursion-push IsRange c.loop-range.raws c.in_ok-raw_range.field-0 c.loop-range.invariant.fit c.in_ok-raw_range.ensures.fits;
    })
