use Rattle.std.proofs.Common.{arith}
use Rattle.wv_code.proofs.Forms.{takes_form}
use Rattle.wv_code.proofs.Shapes.{words_few}
use Rattle.wv_code.proofs.writing.reference.Goals as goal

pub returns-then-op-ne-INVOKEINTERFACE-clause-encodable : goal.returns-then-op-ne-INVOKEINTERFACE-clause-encodable
returns-then-op-ne-INVOKEINTERFACE-clause-encodable c = takes_form c.args.op c.args.descriptor.now c.args.interface c.requires c.if-op-ne-INVOKEINTERFACE.true

pub overflow_add-result : goal.overflow_add-result
overflow_add-result c = omega (arith, words_few c.args.op c.args.descriptor.now c.args.interface c.in-Some.words c.requires c.if-op-ne-INVOKEINTERFACE.false c.in-Some.ensures.found)

pub overflow_cast-result : goal.overflow_cast-result
overflow_cast-result c = omega (arith, words_few c.args.op c.args.descriptor.now c.args.interface c.in-Some.words c.requires c.if-op-ne-INVOKEINTERFACE.false c.in-Some.ensures.found)
