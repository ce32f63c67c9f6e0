use Rattle.wv_class.proofs.AttributeMeanings.{value_found}
use Rattle.wv_class.proofs.attributes_of.value_of.Goals as goal

pub returns-in-ConstantValue : goal.returns-in-ConstantValue
returns-in-ConstantValue c =
    value_found c.args.pool.now c.args.attributes.now c.loop-attribute.attribute-index c.in-ConstantValue.number c.attribute-item.result c.constant_at.result c.loop-attribute-test.true c.attribute-item.is c.loop-attribute.invariant
    c.in-ConstantValue.is c.requires.one c.requires.named c.constant_at.ensures
