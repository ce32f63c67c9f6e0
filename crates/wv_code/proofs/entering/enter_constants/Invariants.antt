use Rattle.std.proofs.Common.{take}
use Rattle.wv_code.specs.Entering.{short_constants}
use Rattle.wv_code.proofs.Entered.{Entered}
use Rattle.wv_code.proofs.entering.enter_constants.Given as goal

abbrev pub invariant-loop-insn : goal.invariant-loop-insn
invariant-loop-insn l = Entered l.fn.pool (short_constants (take l.insn-index l.insns)) l.pool
