use Rattle.wv_code.specs.Breaks.{NamesClass}
use Rattle.wv_class.proofs.AttributeMeanings.{exceptions_named}
use Rattle.wv_class.proofs.attributes_of.throws_of.Goals as goal

pub push_classes-requires : goal.push_classes-requires
push_classes-requires c =
    rw c.as_slice.ensures (exceptions_named (NamesClass c.args.pool.now) c.args.attributes.now c.loop-attribute.attribute-index c.attribute-item.result c.in-Exceptions.numbers c.loop-attribute-test.true c.attribute-item.is
    c.in-Exceptions.is c.requires)
