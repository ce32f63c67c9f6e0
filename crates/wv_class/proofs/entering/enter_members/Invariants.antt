use Rattle.std.proofs.Common.{take}
use Rattle.wv_pool.specs.Adding.{Grows}
use Rattle.wv_class.specs.Needs.{members_need}
use Rattle.wv_class.proofs.entering.enter_members.Given as goal

abbrev pub invariant-loop-member : goal.invariant-loop-member
invariant-loop-member l = Grows l.initial.pool (members_need (take l.member-index l.members)) l.pool
