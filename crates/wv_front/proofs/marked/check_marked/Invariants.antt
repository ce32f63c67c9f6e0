use Rattle.std.proofs.Common.{take}
use Rattle.std.specs.List.{AllByRecursion}
use Rattle.wv_front.specs.Marked.{IsMarked}
use Rattle.wv_front.proofs.marked.check_marked.Given as goal

-- the mixins so far are marked
abbrev pub invariant-loop-mixin : goal.invariant-loop-mixin
invariant-loop-mixin l = AllByRecursion (IsMarked l.classes) (take l.mixin-index l.mixins)
