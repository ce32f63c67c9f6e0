use Rattle.std.proofs.Common.{◌≡◌, ◌++◌, ◌∷◌, [], ◌-◌, ◌+◌, ℤ, SFits, sym, subst, rules}
use Rattle.std.proofs.lemmas.Int.{to_z-of_z}
use Rattle.std.proofs.lemmas.Result.{err_from_is_err_and}
use Rattle.std.specs.Int.{w32}
use Rattle.wv_insn.specs.Reading.{signed_at, times}
use Rattle.wv_insn.proofs.Times.{with_front, goes_on, ends, is_done}
use Rattle.wv_insn.proofs.reading.offsets.Goals as goal

pub returns-in_err-offset : goal.returns-in_err-offset
returns-in_err-offset c =
    let p = err_from_is_err_and c.from_residual.result c.from_residual.ensures.1 in
    rw (p.1, p.2) (ends (signed_at w32) c.in_err-offset.field-0.0 c.loop.offsets c.args.count c.loop.counter c.loop.rest.now (times (signed_at w32) c.args.count c.args.bytes.now) c.loop-test.true c.in_err-offset.ensures c.loop.invariant)

pub loop-preserved : goal.loop-preserved
loop-preserved c =
    let fits : SFits w32 c.in_ok-offset.offset = search rules in
    let e = to_z-of_z w32 c.in_ok-offset.offset fits in
    rw c.in_ok-push.ensures.ok (subst (λ (z : ℤ). with_front (c.loop.offsets ++ z ∷ []) (times (signed_at w32) (c.args.count - (c.loop.counter + 1)) c.in_ok-offset.after.now) ≡ times (signed_at w32) c.args.count c.args.bytes.now) (sym e) (goes_on (signed_at w32) c.loop.offsets c.args.count c.loop.counter c.loop.rest.now c.in_ok-offset.offset c.in_ok-offset.after.now (times (signed_at w32) c.args.count c.args.bytes.now) c.loop-test.true c.in_ok-offset.ensures c.loop.invariant))

pub returns : goal.returns
returns c = is_done (signed_at w32) c.loop.offsets c.args.count c.loop.counter c.loop.rest.now (times (signed_at w32) c.args.count c.args.bytes.now) c.loop-test.false c.loop.invariant
