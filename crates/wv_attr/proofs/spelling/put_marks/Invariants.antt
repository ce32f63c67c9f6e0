use Rattle.std.proofs.Common.{◌≡◌, ◌++◌, take}
use Rattle.wv_attr.specs.Marks.{table_bytes}
use Rattle.wv_attr.proofs.spelling.put_marks.Given as goal

abbrev pub invariant-loop-mark : goal.invariant-loop-mark
invariant-loop-mark l = l.out.items ≡ l.initial.out.items ++ table_bytes (take l.mark-index l.marks)
