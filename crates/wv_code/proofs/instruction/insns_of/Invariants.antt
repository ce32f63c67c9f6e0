use Rattle.std.proofs.Common.{take}
use Rattle.wv_code.specs.Code.{AllMean}
use Rattle.wv_code.proofs.instruction.insns_of.Given as goal

abbrev pub invariant-loop-index : goal.invariant-loop-index
invariant-loop-index l = AllMean l.pool l.offsets (take l.index l.raws) (take l.index l.offsets) l.insns
