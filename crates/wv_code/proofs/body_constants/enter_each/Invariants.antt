use Rattle.std.proofs.Common.{take}
use Rattle.wv_code.proofs.Entered.{Entered}
use Rattle.wv_code.proofs.body_constants.enter_each.Given as goal

abbrev pub invariant-loop-constant : goal.invariant-loop-constant
invariant-loop-constant l = Entered l.fn.pool (take l.constant-index l.constants) l.pool
