use Rattle.wv_class.proofs.MemberKeys.{HasKeys}
use Rattle.wv_class.proofs.distinct.are_distinct.Given as goal

abbrev pub invariant-loop-member : goal.invariant-loop-member
invariant-loop-member l = HasKeys l.seen l.members l.member-index
