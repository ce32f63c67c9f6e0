use Rattle.wv_class.proofs.NamedAttributes.{code_named}
use Rattle.wv_class.proofs.attribute_writing.put_code.Goals as goal

pub code_content-requires-clause-named : goal.code_content-requires-clause-named
code_content-requires-clause-named c = (code_named c.args.pool.now c.args.body.now c.in-Some-Some.body c.in-Some-Some.is-0 c.requires.named).1

pub put_named-requires : goal.put_named-requires
put_named-requires c = rw c.in_ok-content.ensures.same (code_named c.args.pool.now c.args.body.now c.in-Some-Some.body c.in-Some-Some.is-0 c.requires.named).0
