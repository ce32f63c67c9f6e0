use Rattle.std.proofs.Common.{◌≡◌, take}
use Rattle.std.specs.List.{sum_by}
use Rattle.wv_class.specs.Breaks.{member_len}
use Rattle.wv_class.proofs.len.members_len.Given as goal

abbrev pub invariant-loop-member : goal.invariant-loop-member
invariant-loop-member l = l.len ≡ sum_by member_len (take l.member-index l.members)
