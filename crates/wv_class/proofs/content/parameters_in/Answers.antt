use Rattle.std.proofs.Common.{◌-◌, List, ℕ, length, take, drop, subst, sym, ◌∙◌, arith}
use Rattle.wv_base.specs.declared.fault.ClassFault.TheVariants as faults
use Rattle.wv_attr.specs.Layout.{ParametersBreak, IsParameterTable}
use Rattle.wv_code.proofs.Numbers.{are_bytes}
use Rattle.wv_class.proofs.ParameterCuts.{parameters_stops, parameters_takes}
use Rattle.wv_class.proofs.content.parameters_in.Goals as goal

pub returns-in-Err-Layout : goal.returns-in-Err-Layout
returns-in-Err-Layout c = λ pool.
    let f = rw c.in-Err-Layout.field-0-is at c.in-Err-Layout.ensures.fault in
    rw c.in-Err-Layout.field-0-is (parameters_stops pool c.args.visible c.args.len c.args.bytes.now (omega (arith, c.ranges.len.fits)) c.requires (are_bytes c.args.bytes.now (λ i. omega (arith, c.type_inv.bytes i))) c.in-Err-Layout.at
    (subst (λ (k : ℕ). ParametersBreak (take c.args.len c.args.bytes.now) k (faults.Layout c.in-Err-Layout.at)) c.cut-missing.ensures.missing (subst (λ (z : List ℕ). ParametersBreak z c.cut-missing.result.2 (faults.Layout c.in-Err-Layout.at)) c.cut-missing.ensures.front f)))

pub returns-in-Ok : goal.returns-in-Ok
returns-in-Ok c = λ pool.
    let f = c.in-Ok.ensures.found in
    rw (c.from_vec-parts.ensures, c.cut-missing.ensures.rest) (parameters_takes pool c.args.visible c.args.len c.args.bytes.now (omega (arith, c.ranges.len.fits)) c.requires (are_bytes c.args.bytes.now (λ i. omega (arith, c.type_inv.bytes i))) c.in-Ok.parts.items
    (sym c.cut-missing.ensures.missing ∙ f.0) (subst (λ (z : List ℕ). IsParameterTable z c.in-Ok.parts.items) c.cut-missing.ensures.front f.1))
