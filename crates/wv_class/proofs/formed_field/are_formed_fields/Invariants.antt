use Rattle.std.proofs.Common.{take}
use Rattle.std.specs.List.{AllByRecursion}
use Rattle.wv_class.specs.Formed.{IsFormedField}
use Rattle.wv_class.proofs.formed_field.are_formed_fields.Given as goal

abbrev pub invariant-loop-field : goal.invariant-loop-field
invariant-loop-field l = AllByRecursion (IsFormedField l.pool) (take l.field-index l.fields)
