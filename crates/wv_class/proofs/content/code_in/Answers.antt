use Rattle.std.proofs.Common.{◌-◌, List, ℕ, length, take, subst, arith}
use Rattle.wv_code.specs.Content.{IsLayoutFault}
use Rattle.wv_class.proofs.Cuts.{code_stops}
use Rattle.wv_class.proofs.content.code_in.Goals as goal

pub returns-in-Err-Layout : goal.returns-in-Err-Layout
returns-in-Err-Layout c =
    let f = rw c.in-Err-Layout.field-0-is at c.in-Err-Layout.ensures.fault in
    rw c.in-Err-Layout.field-0-is (code_stops c.args.pool.now c.args.len c.args.bytes.now (omega (arith, c.ranges.len.fits)) c.requires c.in-Err-Layout.at
    (subst (λ (k : ℕ). IsLayoutFault c.args.pool.now k (take c.args.len c.args.bytes.now) c.in-Err-Layout.at) c.cut-missing.ensures.missing (subst (λ (z : List ℕ). IsLayoutFault c.args.pool.now c.cut-missing.result.2 z c.in-Err-Layout.at) c.cut-missing.ensures.front f)))
