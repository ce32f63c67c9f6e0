use Rattle.std.proofs.Common.{◌∙◌}
use Rattle.wv_class.proofs.PutNotes.{next_writable, next_named, next_put}
use Rattle.wv_class.proofs.note_writing.put_tables.Goals as goal

pub put_table-requires-clause-writable : goal.put_table-requires-clause-writable
put_table-requires-clause-writable c =
    rw c.split_at.ensures.front
    (next_writable c.args.pool.now c.args.notes.now c.loop-rest.rest.now c.args.out.now c.loop-rest.out c.first_table_len.result c.first_table_len.ensures.first c.loop-rest.invariant.put)

pub put_table-requires-clause-named : goal.put_table-requires-clause-named
put_table-requires-clause-named c =
    rw (c.split_at.ensures.front, c.loop-rest.invariant.same)
    (next_named c.args.pool.now c.args.notes.now c.loop-rest.rest.now c.args.out.now c.loop-rest.out c.first_table_len.result c.first_table_len.ensures.first c.loop-rest.invariant.put)

pub loop-rest-preserved : goal.loop-rest-preserved
loop-rest-preserved c = record {
  same = c.in_ok-put_table.ensures.same ∙ c.loop-rest.invariant.same;
  put =
      rw c.split_at.ensures.back
      (next_put c.args.pool.now c.args.notes.now c.loop-rest.rest.now c.args.out.now c.loop-rest.out c.first_table_len.result c.first_table_len.ensures.first c.loop-rest.invariant.put c.put_table.new.out
      (rw (c.split_at.ensures.front, c.loop-rest.invariant.same) at c.in_ok-put_table.ensures.written));
}
