use Rattle.std.proofs.Common.{take}
use Rattle.wv_code.specs.Least.{IsLeastOf, InItems}
use Rattle.wv_code.specs.Checking.{InsnAtBreaks}
use Rattle.wv_code.proofs.insn_break.insns_break.Given as goal

abbrev pub invariant-loop-index : goal.invariant-loop-index
invariant-loop-index l = IsLeastOf (InItems (take l.index l.insns) (InsnAtBreaks l.pool l.offsets)) l.first
