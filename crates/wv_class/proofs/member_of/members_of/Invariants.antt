use Rattle.std.proofs.Common.{◌≡◌, ◌++◌, List, length, reverse}
use Rattle.wv_class.specs.declared.raw_class.RawMember.{RawMember}
use Rattle.wv_class.specs.Meaning.{AreMembersOf}
use Rattle.wv_class.proofs.member_of.members_of.Given as goal

abbrev pub invariant-loop-raw : goal.invariant-loop-raw
invariant-loop-raw l = (done : List RawMember) × (l.initial.raws ≡ l.raws ++ done) × AreMembersOf l.pool l.class done (reverse l.members.items)

abbrev pub decreases-loop-raw : goal.decreases-loop-raw
decreases-loop-raw l = length l.raws
