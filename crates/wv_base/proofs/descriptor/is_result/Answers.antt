use Rattle.wv_base.proofs.MethodTypes.{result_there, no_result, not_void}
use Rattle.wv_base.proofs.descriptor.is_result.Goals as goal

pub returns-else-eq : goal.returns-else-eq
returns-else-eq c = (λ yes. result_there c.args.units.now (c.is_field.ensures.0 yes), λ is. c.is_field.ensures.1 (no_result c.args.units.now (not_void c.args.units.now c.as_slice.result.now c.as_slice.ensures c.if-eq.ensures) is))
