use Rattle.std.proofs.Common.{take}
use Rattle.wv_code.specs.Constants.{all_constants}
use Rattle.wv_code.proofs.Entered.{Entered}
use Rattle.wv_code.proofs.writing.enter_all.Given as goal

abbrev pub invariant-loop-insn : goal.invariant-loop-insn
invariant-loop-insn l = Entered l.fn.pool (all_constants (take l.insn-index l.insns)) l.pool
