use Rattle.std.proofs.Common.{arith}
use Rattle.wv_class.proofs.NamedAttributes.{exceptions_named}
use Rattle.wv_class.proofs.attribute_writing.put_exceptions.Goals as goal

pub put_classes-requires-clause-named : goal.put_classes-requires-clause-named
put_classes-requires-clause-named c = (exceptions_named c.args.pool.now c.args.names.now (λ is. absurd (grind (arith, is, c.if-is_empty.ensures))) c.requires.named).1

pub put_named-requires : goal.put_named-requires
put_named-requires c = (exceptions_named c.args.pool.now c.args.names.now (λ is. absurd (grind (arith, is, c.if-is_empty.ensures))) c.requires.named).0
