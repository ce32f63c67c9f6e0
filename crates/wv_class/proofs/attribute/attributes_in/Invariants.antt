use Rattle.wv_class.specs.Layout.{SpellsAttribute}
use Rattle.wv_class.specs.Numbers.{SpellsTimes}
use Rattle.wv_class.specs.Reading.{Taken}
use Rattle.wv_class.proofs.attribute.attributes_in.Given as goal

abbrev pub invariant-loop : goal.invariant-loop
invariant-loop l = Taken (SpellsTimes (SpellsAttribute l.pool l.place) l.counter) l.bytes l.attributes l.rest
