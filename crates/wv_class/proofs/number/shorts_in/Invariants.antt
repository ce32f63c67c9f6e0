use Rattle.wv_class.specs.Numbers.{SpellsShort, SpellsTimes}
use Rattle.wv_class.specs.Reading.{Taken}
use Rattle.wv_class.proofs.number.shorts_in.Given as goal

abbrev pub invariant-loop : goal.invariant-loop
invariant-loop l = Taken (SpellsTimes SpellsShort l.counter) l.bytes l.shorts l.rest
