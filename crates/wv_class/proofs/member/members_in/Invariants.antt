use Rattle.wv_class.specs.Layout.{SpellsMember}
use Rattle.wv_class.specs.Numbers.{SpellsTimes}
use Rattle.wv_class.specs.Reading.{Taken}
use Rattle.wv_class.proofs.member.members_in.Given as goal

abbrev pub invariant-loop : goal.invariant-loop
invariant-loop l = Taken (SpellsTimes (SpellsMember l.pool l.place) l.counter) l.bytes l.members l.rest
