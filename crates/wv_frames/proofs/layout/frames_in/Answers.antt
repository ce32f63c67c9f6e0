use Rattle.std.proofs.Common.{arith}
use Rattle.std.proofs.lemmas.Result.{err_from_is_err_and}
use Rattle.wv_frames.specs.Reading.{frame_at, frames_in}
use Rattle.wv_frames.proofs.Loops.{goes_on, ends, is_done}
use Rattle.wv_frames.proofs.layout.frames_in.Goals as goal

pub returns-in_err-frame-clause-gives : goal.returns-in_err-frame-clause-gives
returns-in_err-frame-clause-gives c =
    let p = err_from_is_err_and c.from_residual.result c.from_residual.ensures.1 in
    rw (p.1, p.2) (ends (frame_at c.args.missing) c.in_err-frame.field-0.0 c.loop-place.frames.items c.args.count c.loop-place.place c.loop-place.rest.now (frames_in c.args.missing c.args.count c.args.bytes.now) c.loop-place-test.true c.in_err-frame.ensures.gives c.loop-place.invariant.gives)

pub loop-place-preserved : goal.loop-place-preserved
loop-place-preserved c = record {
  gives = rw c.in_ok-push.ensures.items (goes_on (frame_at c.args.missing) c.loop-place.frames.items c.args.count c.loop-place.place c.loop-place.rest.now c.in_ok-frame.frame c.in_ok-frame.after.now (frames_in c.args.missing c.args.count c.args.bytes.now) c.loop-place-test.true c.in_ok-frame.ensures.gives c.loop-place.invariant.gives);
  shorter = omega (arith, c.in_ok-frame.ensures.shorter, c.loop-place.invariant.shorter);
}

pub returns-clause-gives : goal.returns-clause-gives
returns-clause-gives c = is_done (frame_at c.args.missing) c.loop-place.frames.items c.args.count c.loop-place.place c.loop-place.rest.now (frames_in c.args.missing c.args.count c.args.bytes.now) c.loop-place-test.false c.loop-place.invariant.gives
