use Rattle.std.proofs.lemmas.Result.{on_ok_weaker}
use Rattle.wv_class.proofs.PutNotes.{table_named, table_written}
use Rattle.wv_class.proofs.note_writing.put_table.Goals as goal

pub table_content-requires-clause-named : goal.table_content-requires-clause-named
table_content-requires-clause-named c = (table_named c.args.pool.now c.args.table.now c.first-item.result c.in-len1-up.len_at_least c.first-item.is c.requires.named).0

pub put_named-requires : goal.put_named-requires
put_named-requires c = rw (c.in-Ok.ensures.same, c.table_name.ensures) (table_named c.args.pool.now c.args.table.now c.first-item.result c.in-len1-up.len_at_least c.first-item.is c.requires.named).1

pub returns-in-Ok-clause-written : goal.returns-in-Ok-clause-written
returns-in-Ok-clause-written c =
    on_ok_weaker c.put_named.result
    (table_written c.args.pool.now c.args.table.now c.first-item.result c.in-len1-up.len_at_least c.first-item.is c.args.out.now c.put_named.new.out c.in-Ok.content c.in-Ok.ensures.written)
    (rw (c.in-Ok.ensures.same, c.table_name.ensures) at c.put_named.ensures)
