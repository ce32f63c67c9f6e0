use Rattle.std.proofs.Common.{length}
use Rattle.wv_class.proofs.AnnotationsPut.{TablesPut}
use Rattle.wv_class.proofs.entering.enter_annotations.Given as goal

abbrev pub invariant-loop-rest : goal.invariant-loop-rest
invariant-loop-rest l = TablesPut l.initial.pool l.notes l.rest l.pool

abbrev pub decreases-loop-rest : goal.decreases-loop-rest
decreases-loop-rest l = length l.rest
