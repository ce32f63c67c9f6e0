use Rattle.std.proofs.Common.{take}
use Rattle.wv_pool.specs.Adding.{Grows}
use Rattle.wv_class.specs.Needs.{parts_of}
use Rattle.wv_class.proofs.entering.enter_each.Given as goal

abbrev pub invariant-loop-constant : goal.invariant-loop-constant
invariant-loop-constant l = Grows l.initial.pool (parts_of (take l.constant-index l.constants)) l.pool
