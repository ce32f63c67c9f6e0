use Rattle.wv_pool.proofs.FactTables.{slot_step, copied_get}
use Rattle.wv_pool.proofs.reference.slot_of.Goals as goal

pub returns : goal.returns
returns c =
    let k = c.in_ok-checked_sub.ensures in
    let h = c.get.ensures.lookup in
    rw (slot_step c.args.facts.now c.args.number c.in_ok-checked_sub.field-0 k.0 k.1) (copied_get c.get.result c.args.facts.now c.in_ok-checked_sub.field-0 h.0 h.1)
