use Rattle.wv_desc.proofs.Reading.{only_method}
use Rattle.wv_desc.proofs.method.method_type.Goals as goal

pub returns-clause-only : goal.returns-clause-only
returns-clause-only c = rw c.units.ensures at (only_method c.units.result.now c.method_of.result c.method_of.ensures.found c.method_of.ensures.none)
