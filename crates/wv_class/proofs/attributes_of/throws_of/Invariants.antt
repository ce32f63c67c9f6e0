use Rattle.std.proofs.Common.{take}
use Rattle.wv_class.specs.Meaning.{exceptions_in, AreClasses}
use Rattle.wv_class.proofs.attributes_of.throws_of.Given as goal

abbrev pub invariant-loop-attribute : goal.invariant-loop-attribute
invariant-loop-attribute l = AreClasses l.pool (exceptions_in (take l.attribute-index l.attributes)) l.names.items
