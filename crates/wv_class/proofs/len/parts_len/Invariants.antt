use Rattle.std.proofs.Common.{◌≡◌, length, take}
use Rattle.wv_attr.specs.Marks.{table_bytes}
use Rattle.wv_class.proofs.len.parts_len.Given as goal

abbrev pub invariant-loop-mark : goal.invariant-loop-mark
invariant-loop-mark l = l.len ≡ length (table_bytes (take l.mark-index l.parts))
