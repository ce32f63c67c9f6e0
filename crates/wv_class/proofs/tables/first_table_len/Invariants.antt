use Rattle.std.proofs.Common.{length, ◌-◌, ◌≡◌, ◌<◌, ◌+◌, drop}
use Rattle.wv_class.proofs.NoteTables.{first_len}
use Rattle.wv_class.proofs.tables.first_table_len.Given as goal

abbrev pub invariant-loop-last : goal.invariant-loop-last
invariant-loop-last l = record {
  within : l.last < length l.notes;
  counted : first_len l.notes ≡ l.last + first_len (drop l.last l.notes);
}

abbrev pub decreases-loop-last : goal.decreases-loop-last
decreases-loop-last l = length l.notes - l.last
