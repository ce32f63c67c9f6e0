use Rattle.std.proofs.Common.{take}
use Rattle.std.specs.List.{AllByRecursion}
use Rattle.wv_merge.specs.Plain.{IsPlain}
use Rattle.wv_merge.proofs.plain.are_plain.Given as goal

abbrev pub invariant-loop-insn : goal.invariant-loop-insn
invariant-loop-insn l = AllByRecursion IsPlain (take l.insn-index l.insns)
