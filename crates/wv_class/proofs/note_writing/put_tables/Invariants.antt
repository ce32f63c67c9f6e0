use Rattle.std.proofs.Common.{◌≡◌, length}
use Rattle.wv_class.proofs.PutNotes.{TablesPut}
use Rattle.wv_class.proofs.note_writing.put_tables.Given as goal

abbrev pub invariant-loop-rest : goal.invariant-loop-rest
invariant-loop-rest l = record {
  same : l.pool ≡ l.initial.pool;
  put : TablesPut l.initial.pool l.notes l.initial.out l.out l.rest;
}

abbrev pub decreases-loop-rest : goal.decreases-loop-rest
decreases-loop-rest l = length l.rest
