use Rattle.std.proofs.Common.{◌-◌, List, ℕ, length, take, subst, arith}
use Rattle.wv_attr.specs.Layout.{lists, IsLayoutFault}
use Rattle.wv_class.proofs.Cuts.{parts_stops}
use Rattle.wv_class.proofs.content.annotations_in.Goals as goal

pub returns-in-Err-Layout : goal.returns-in-Err-Layout
returns-in-Err-Layout c = λ pool.
    let f = rw c.in-Err-Layout.field-0-is at c.in-Err-Layout.ensures.fault in
    rw c.in-Err-Layout.field-0-is (parts_stops pool c.args.visible c.args.len c.args.bytes.now (omega (arith, c.ranges.len.fits)) c.requires c.in-Err-Layout.at
    (subst (λ (k : ℕ). IsLayoutFault (lists 1) (take c.args.len c.args.bytes.now) k c.in-Err-Layout.at) c.cut-missing.ensures.missing (subst (λ (z : List ℕ). IsLayoutFault (lists 1) z c.cut-missing.result.2 c.in-Err-Layout.at) c.cut-missing.ensures.front f)))
