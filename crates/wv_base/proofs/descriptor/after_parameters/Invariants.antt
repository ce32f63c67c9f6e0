use Rattle.std.proofs.Common.{List, length}
use Rattle.wv_base.specs.declared.descriptor.FieldType.{FieldType}
use Rattle.wv_base.proofs.MethodTypes.{HasParameters}
use Rattle.wv_base.proofs.descriptor.after_parameters.Given as goal

abbrev pub invariant-loop-after : goal.invariant-loop-after
invariant-loop-after l = (fields : List FieldType) × HasParameters l.units fields l.rest l.words

abbrev pub decreases-loop-after : goal.decreases-loop-after
decreases-loop-after l = length l.rest
