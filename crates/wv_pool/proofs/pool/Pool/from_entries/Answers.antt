use Rattle.wv_pool.proofs.pool.Pool.from_entries.Goals as goal

pub invariant_of-result : goal.invariant_of-result
invariant_of-result c = (c.requires, rw c.deref.ensures.value at c.in_ok-index.ensures)
