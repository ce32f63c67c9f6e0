use Rattle.std.proofs.Common.{◌≡◌, ◌+◌, ◌≤◌, length}
use Rattle.wv_class.specs.Tables.{tables_of}
use Rattle.wv_class.proofs.limits.table_count.Given as goal

abbrev pub invariant-loop-rest : goal.invariant-loop-rest
invariant-loop-rest l = record {
  parts : length (tables_of l.notes) ≡ l.count + length (tables_of l.rest);
  few : l.count + length l.rest ≤ length l.notes;
}

abbrev pub decreases-loop-rest : goal.decreases-loop-rest
decreases-loop-rest l = length l.rest
