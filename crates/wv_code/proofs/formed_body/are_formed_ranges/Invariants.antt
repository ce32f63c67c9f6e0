use Rattle.std.proofs.Common.{take}
use Rattle.std.specs.List.{AllByRecursion}
use Rattle.wv_code.specs.FormedBody.{IsFormedRange}
use Rattle.wv_code.proofs.formed_body.are_formed_ranges.Given as goal

abbrev pub invariant-loop-range : goal.invariant-loop-range
invariant-loop-range l = AllByRecursion (IsFormedRange l.count) (take l.range-index l.ranges)
