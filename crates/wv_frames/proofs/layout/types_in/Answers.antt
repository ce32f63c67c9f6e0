use Rattle.std.proofs.Common.{◌≡◌, ◌-◌, ℕ, ap, sym, subst, ◌∙◌, arith}
use Rattle.std.proofs.lemmas.Result.{err_from_is_err_and}
use Rattle.wv_frames.specs.Reading.{Fails, one_type, types_in}
use Rattle.wv_frames.proofs.Loops.{goes_on, ends, is_done}
use Rattle.wv_frames.proofs.layout.types_in.Goals as goal

pub returns-in_err-one-clause-gives : goal.returns-in_err-one-clause-gives
returns-in_err-one-clause-gives c =
    let p = err_from_is_err_and c.from_residual.result c.from_residual.ensures.1 in
    let left : c.from.result ≡ c.args.count - c.loop-place.place - 1 = omega (arith, c.from.ensures) in
    rw (p.1, p.2) (ends (one_type c.args.missing c.args.behind) c.in_err-one.field-0.0 c.loop-place.types c.args.count c.loop-place.place c.loop-place.rest.now (types_in c.args.missing c.args.count c.args.behind c.args.bytes.now) c.loop-place-test.true (subst (λ (n : ℕ). Fails c.in_err-one.field-0.0 (one_type c.args.missing c.args.behind n c.loop-place.rest.now)) left c.in_err-one.ensures.gives) c.loop-place.invariant.gives)

pub loop-place-preserved : goal.loop-place-preserved
loop-place-preserved c =
    let left : c.from.result ≡ c.args.count - c.loop-place.place - 1 = omega (arith, c.from.ensures) in
    record {
      gives = rw c.in_ok-push.ensures.ok (goes_on (one_type c.args.missing c.args.behind) c.loop-place.types c.args.count c.loop-place.place c.loop-place.rest.now c.in_ok-one.one c.in_ok-one.after.now (types_in c.args.missing c.args.count c.args.behind c.args.bytes.now) c.loop-place-test.true (ap (λ (n : ℕ). one_type c.args.missing c.args.behind n c.loop-place.rest.now) (sym left) ∙ c.in_ok-one.ensures.gives) c.loop-place.invariant.gives);
      shorter = omega (arith, c.in_ok-one.ensures.shorter, c.loop-place.invariant.shorter);
    }

pub returns-clause-gives : goal.returns-clause-gives
returns-clause-gives c = is_done (one_type c.args.missing c.args.behind) c.loop-place.types c.args.count c.loop-place.place c.loop-place.rest.now (types_in c.args.missing c.args.count c.args.behind c.args.bytes.now) c.loop-place-test.false c.loop-place.invariant.gives
