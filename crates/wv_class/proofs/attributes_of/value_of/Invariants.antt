use Rattle.std.proofs.Common.{◌≡◌, [], take}
use Rattle.wv_class.specs.Meaning.{values_in}
use Rattle.wv_class.proofs.attributes_of.value_of.Given as goal

abbrev pub invariant-loop-attribute : goal.invariant-loop-attribute
invariant-loop-attribute l = values_in (take l.attribute-index l.attributes) ≡ []
