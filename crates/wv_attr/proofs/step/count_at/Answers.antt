use Rattle.std.proofs.Common.{◌≡◌, ℕ, length, ◌+◌, ◌-◌, arith, sym, ap, subst, ◌∙◌}
use Rattle.std.proofs.lemmas.List.{take-append-le}
use Rattle.std.proofs.lemmas.Result.{err_from_is_err_and}
use Rattle.wv_room.specs.Counts.{elements_with, ElementsFillRoom}
use Rattle.wv_attr.specs.Marks.{two_bytes}
use Rattle.wv_attr.specs.Steps.{zeros, padded}
use Rattle.wv_attr.proofs.Padding.{length-padded}
use Rattle.wv_attr.proofs.StepFaults.{two_read, count_fault}
use Rattle.wv_attr.proofs.step.count_at.Goals as goal

pub returns-in_err-read_number : goal.returns-in_err-read_number
returns-in_err-read_number c =
    let p = err_from_is_err_and c.from_residual.result c.from_residual.ensures.1 in
    rw (p.1, p.2) (count_fault c.args.kind c.args.besides c.args.bytes.now c.args.missing c.in_err-read_number.field-0.0 (λ i. omega (arith, c.type_inv.bytes i)) c.requires.long c.in_err-read_number.ensures.fault)

pub overflow_cast-result : goal.overflow_cast-result
overflow_cast-result c =
    let r = two_read c.args.bytes.now (λ i. omega (arith, c.type_inv.bytes i)) c.requires.long in
    omega (arith, r.1, c.in_ok-read_number.ensures.spelled)

pub returns : goal.returns
returns c =
    let r = two_read c.args.bytes.now (λ i. omega (arith, c.type_inv.bytes i)) c.requires.long in
    let room : length c.args.bytes.now - 2 + c.args.missing ≡ length (padded c.args.bytes.now c.args.missing) - 2 = omega (arith, length-padded c.args.bytes.now c.args.missing, c.requires.long) in
    let allowed = subst (λ (k : ℕ). ElementsFillRoom (elements_with c.args.kind c.in_ok-read_number.field-0 c.args.besides) k) room c.in_ok-read_number.ensures.allowed in (
      record { narrow = omega (arith, r.1, c.in_ok-read_number.ensures.spelled); fills = allowed },
      take-append-le 2 c.args.bytes.now (zeros c.args.missing) c.requires.long ∙ r.0 ∙ ap two_bytes (sym c.in_ok-read_number.ensures.spelled),
    )
