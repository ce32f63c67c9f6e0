use Rattle.std.proofs.Common.{arith}
use Rattle.std.proofs.lemmas.List.Folds.{length-flat_map-take}
use Rattle.wv_attr.specs.declared.mark.Mark.TheVariants as marks
use Rattle.wv_attr.specs.Marks.{mark_bytes}
use Rattle.wv_class.proofs.len.parts_len.Goals as goal

pub overflow_add-len : goal.overflow_add-len
overflow_add-len c =
    omega (arith, c.requires, c.loop-mark.invariant, c.len-len.ensures, length-flat_map-take mark_bytes c.args.parts.now c.loop-mark.mark-index (marks.List 0) c.loop-mark-test.true)
