use Rattle.std.proofs.Common.{◌≡◌, ◌∙◌, ◌-◌, List, ℕ, Ok, ap, sym, drop, take, length, arith}
use Rattle.std.proofs.lemmas.Result.{err_from_is_err_and}
use Rattle.std.proofs.lemmas.List.{length-drop}
use Rattle.std.proofs.Math.Seq.{take-length}
use Rattle.wv_code.proofs.CodeLoop.{goes_on, fails, ends}
use Rattle.wv_code.proofs.content.code_at.Goals as goal

pub returns-in_err-raw-clause-gives : goal.returns-in_err-raw-clause-gives
returns-in_err-raw-clause-gives c =
    let p = err_from_is_err_and c.from_residual.result c.from_residual.ensures.1 in
    rw (p.1, p.2) (fails c.in_err-raw.field-0.0 c.args.bytes.now c.args.len c.saturating_sub-tail.result c.args.missing c.loop-at.at c.loop-at.raws c.loop-at.offsets c.saturating_sub-tail.ensures c.loop-at.invariant (omega (arith, c.loop-at-test.true, c.loop-at.invariant.room)) c.in_err-raw.ensures)

pub overflow_sub-at : goal.overflow_sub-at
overflow_sub-at c = (goes_on c.args.bytes.now c.saturating_sub-tail.result c.args.missing c.loop-at.at c.loop-at.raws c.loop-at.offsets c.in_ok-raw.raw c.in_ok-raw.rest.now (λ i. omega (arith, c.type_inv.bytes i)) c.loop-at.invariant (omega (arith, c.loop-at-test.true, c.loop-at.invariant.room)) c.in_ok-raw.ensures).shorter

pub loop-at-smaller : goal.loop-at-smaller
loop-at-smaller c =
    let s = goes_on c.args.bytes.now c.saturating_sub-tail.result c.args.missing c.loop-at.at c.loop-at.raws c.loop-at.offsets c.in_ok-raw.raw c.in_ok-raw.rest.now (λ i. omega (arith, c.type_inv.bytes i)) c.loop-at.invariant (omega (arith, c.loop-at-test.true, c.loop-at.invariant.room)) c.in_ok-raw.ensures in
    omega (arith, s.further, s.going.within)

pub loop-at-preserved : goal.loop-at-preserved
loop-at-preserved c =
    rw (c.in_ok-push.ensures.ok, c.in_ok-push-2.ensures.ok)
    (goes_on c.args.bytes.now c.saturating_sub-tail.result c.args.missing c.loop-at.at c.loop-at.raws c.loop-at.offsets c.in_ok-raw.raw c.in_ok-raw.rest.now (λ i. omega (arith, c.type_inv.bytes i)) c.loop-at.invariant (omega (arith, c.loop-at-test.true, c.loop-at.invariant.room)) c.in_ok-raw.ensures).going

pub returns-clause-gives : goal.returns-clause-gives
returns-clause-gives c =
    let rest : take (length c.args.bytes.now - c.loop-at.at) (drop c.loop-at.at c.args.bytes.now) ≡ drop c.loop-at.at c.args.bytes.now =
    ap (λ (k : ℕ). take k (drop c.loop-at.at c.args.bytes.now)) (sym (length-drop c.loop-at.at c.args.bytes.now)) ∙ take-length (drop c.loop-at.at c.args.bytes.now) in
    ends c.args.bytes.now c.args.len c.saturating_sub-tail.result c.args.missing c.loop-at.at c.loop-at.raws c.loop-at.offsets c.saturating_sub-tail.ensures c.loop-at.invariant c.loop-at-test.false
    ∙ ap (λ (z : List ℕ). Ok ((c.loop-at.raws, c.loop-at.offsets), z)) (sym rest)
