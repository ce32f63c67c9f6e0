use Rattle.wv_class.proofs.NamedAttributes.{value_named}
use Rattle.wv_class.proofs.attribute_writing.put_value.Goals as goal

pub put_constant-requires : goal.put_constant-requires
put_constant-requires c = (value_named c.args.pool.now c.args.value.now c.in-Some.value c.in-Some.is c.requires).1

pub put_named-requires : goal.put_named-requires
put_named-requires c = (value_named c.args.pool.now c.args.value.now c.in-Some.value c.in-Some.is c.requires).0
