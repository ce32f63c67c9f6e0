use Rattle.std.proofs.Common.{take}
use Rattle.wv_code.specs.Least.{IsLeastOf, InItems}
use Rattle.wv_code.specs.Checking.{TargetBreaks}
use Rattle.wv_code.proofs.insn_break.targets_break.Given as goal

abbrev pub invariant-loop-k : goal.invariant-loop-k
invariant-loop-k l = IsLeastOf (InItems (take l.k l.distances) (TargetBreaks l.offsets l.at l.base)) l.first
