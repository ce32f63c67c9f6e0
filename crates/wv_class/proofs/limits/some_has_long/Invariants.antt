use Rattle.wv_class.proofs.LongLists.{NoneHasLong}
use Rattle.wv_class.proofs.limits.some_has_long.Given as goal

abbrev pub invariant-loop-member : goal.invariant-loop-member
invariant-loop-member l = NoneHasLong l.members l.member-index
