use Rattle.std.proofs.Common.{take}
use Rattle.wv_code.specs.Body.{AreRangesOf}
use Rattle.wv_code.proofs.range.ranges_of.Given as goal

abbrev pub invariant-loop-raw : goal.invariant-loop-raw
invariant-loop-raw l = AreRangesOf l.pool l.offsets l.len (take l.raw-index l.raws) l.ranges
