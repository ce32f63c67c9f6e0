use Rattle.std.proofs.Common.{length, take}
use Rattle.std.specs.List.{AllByRecursion}
use Rattle.wv_code.specs.Formed.{IsFormed}
use Rattle.wv_code.proofs.formed.are_formed.Given as goal

abbrev pub invariant-loop-insn : goal.invariant-loop-insn
invariant-loop-insn l = AllByRecursion (IsFormed (length l.insns)) (take l.insn-index l.insns)
