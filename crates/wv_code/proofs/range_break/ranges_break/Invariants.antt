use Rattle.std.proofs.Common.{take}
use Rattle.wv_code.specs.Least.{IsLeastOf, InItems}
use Rattle.wv_code.specs.Checking.{RangeAtBreaks}
use Rattle.wv_code.proofs.range_break.ranges_break.Given as goal

abbrev pub invariant-loop-index : goal.invariant-loop-index
invariant-loop-index l = IsLeastOf (InItems (take l.index l.ranges) (RangeAtBreaks l.pool l.offsets l.len l.base)) l.first
