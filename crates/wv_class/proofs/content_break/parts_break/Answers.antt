use Rattle.wv_attr.specs.References.{FirstBreaks}
use Rattle.wv_class.proofs.Places.{behind_behind}
use Rattle.wv_class.proofs.content_break.parts_break.Goals as goal

pub returns-in-ParameterAnnotations : goal.returns-in-ParameterAnnotations
returns-in-ParameterAnnotations c =
    let parts = c.in-ParameterAnnotations.parts in
    rw c.in-ParameterAnnotations.is (behind_behind (FirstBreaks c.args.pool.now parts) c.args.base 1 (rw c.as_slice-in-ParameterAnnotations.ensures at c.marks_break-in-ParameterAnnotations.ensures))
