use Rattle.std.proofs.Common.{take}
use Rattle.std.specs.List.{AllByRecursion}
use Rattle.wv_code.specs.Content.{IsRange}
use Rattle.wv_code.specs.Body.{AreRangesOf}
use Rattle.wv_code.proofs.raw_range.raw_ranges.Given as goal

abbrev pub invariant-loop-range : goal.invariant-loop-range
invariant-loop-range l = record {
  of : AreRangesOf l.pool l.layout.offsets l.layout.len l.raws (take l.range-index l.ranges);
  fit : AllByRecursion IsRange l.raws;
}
