use Rattle.wv_class.proofs.Heads.{pool_stopped}
use Rattle.wv_class.proofs.layout.pool_at.Goals as goal

pub returns-in-Err-Layout : goal.returns-in-Err-Layout
returns-in-Err-Layout c =
    let f = rw c.in-Err-Layout.field-0-is at c.in-Err-Layout.ensures.fault in
    pool_stopped c.args.bytes.now c.in-Err-Layout.at f
