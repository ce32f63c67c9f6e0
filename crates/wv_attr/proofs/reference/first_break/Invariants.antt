use Rattle.std.proofs.Common.{◌≡◌, length, take}
use Rattle.std.specs.List.{AllByRecursion}
use Rattle.wv_attr.specs.Marks.{table_bytes}
use Rattle.wv_attr.specs.References.{IsSound}
use Rattle.wv_attr.proofs.reference.first_break.Given as goal

abbrev pub invariant-loop-mark : goal.invariant-loop-mark
invariant-loop-mark l = record {
  sound : AllByRecursion (IsSound l.pool) (take l.mark-index l.parts);
  place : l.at ≡ length (table_bytes (take l.mark-index l.parts));
}
