use Rattle.std.proofs.Common.{◌≡◌, ◌++◌, take}
use Rattle.wv_code.specs.Constants.{all_constants}
use Rattle.wv_code.proofs.body_constants.push_insns.Given as goal

abbrev pub invariant-loop-insn : goal.invariant-loop-insn
invariant-loop-insn l = l.out ≡ l.initial.out ++ all_constants (take l.insn-index l.insns)
