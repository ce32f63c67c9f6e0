use Rattle.std.proofs.Common.{false}
use Rattle.wv_pool.proofs.Entire.{slots_small}
use Rattle.wv_pool.proofs.writing.pool_to_bytes.Goals as goal

pub put_entry-requires : goal.put_entry-requires
put_entry-requires c = rw c.entry-item.is (slots_small false c.args.pool.now c.loop-entry.entry-index c.entry-item.result c.requires.1 c.loop-entry-test.true)
