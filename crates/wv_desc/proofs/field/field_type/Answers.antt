use Rattle.wv_desc.proofs.Reading.{only_field}
use Rattle.wv_desc.proofs.field.field_type.Goals as goal

pub returns-clause-only : goal.returns-clause-only
returns-clause-only c = rw c.units.ensures at (only_field c.units.result.now c.type_of.result c.type_of.ensures.found c.type_of.ensures.none)
