use Rattle.std.proofs.Common.{◌∙◌, ◌-◌, List, ℕ, sym, subst, arith}
use Rattle.wv_frames.specs.Layout.{IsLayoutFault}
use Rattle.wv_code.proofs.FrameFaults.{frames_ok, frames_err}
use Rattle.wv_code.proofs.content.frames_at.Goals as goal

pub returns-in-Ok-clause-gives : goal.returns-in-Ok-clause-gives
returns-in-Ok-clause-gives c =
    let f = c.in-Ok.ensures.found in
    rw (c.from_vec-frames.ensures, c.split_at.ensures.back) (frames_ok c.args.name c.args.len c.min-there.result c.args.bytes.now c.in-Ok.frames.items c.min-there.ensures f.0 (sym c.split_at.ensures.front ∙ f.1) f.2)

pub returns-in-Err-Layout-clause-gives : goal.returns-in-Err-Layout-clause-gives
returns-in-Err-Layout-clause-gives c =
    let f = rw c.in-Err-Layout.field-0-is at c.in-Err-Layout.ensures.fault in
    rw c.in-Err-Layout.field-0-is (frames_err c.args.name c.args.len c.min-there.result c.args.bytes.now c.in-Err-Layout.at (λ i. omega (arith, c.type_inv.bytes i)) (omega (arith, c.ranges.len.fits)) c.min-there.ensures (subst (λ (z : List ℕ). IsLayoutFault (c.args.len - c.min-there.result) z c.in-Err-Layout.at) c.split_at.ensures.front f))
