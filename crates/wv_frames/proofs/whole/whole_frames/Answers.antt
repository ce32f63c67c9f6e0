use Rattle.std.proofs.Common.{◌≡◌, ◌+◌, ◌++◌, ◌∷◌, [], List, ℕ, Some, take, sym, subst, ◌∙◌, ap, arith}
use Rattle.std.proofs.lemmas.List.{take_more}
use Rattle.std.proofs.lemmas.Result.{err_from_is_err_and}
use Rattle.wv_base.specs.declared.frame.FrameAt.{FrameAt}
use Rattle.wv_base.specs.declared.frame.VType.{VType}
use Rattle.wv_pool.proofs.Entire.{flat_map-more, split_at}
use Rattle.wv_frames.specs.Spelling.{frame_bytes}
use Rattle.wv_frames.specs.Whole.{frame_after, delta_of, locals_behind}
use Rattle.wv_frames.proofs.WholeFrames.{placed, next_behind, frames_more, next_more}
use Rattle.wv_frames.proofs.WholeFaults.{frames_break}
use Rattle.wv_frames.proofs.whole.whole_frames.Goals as goal

pub returns-in_err-frame-clause-fault : goal.returns-in_err-frame-clause-fault
returns-in_err-frame-clause-fault c =
    let p = err_from_is_err_and c.from_residual.result c.from_residual.ensures.1 in
    let parts : c.args.raw.now ≡ take c.loop-one.one-index c.args.raw.now ++ c.one-item.result ∷ _ = rw c.one-item.is (split_at c.args.raw.now c.loop-one.one-index c.one-item.result c.loop-one-test.true) in
    rw (p.1, p.2) (frames_break c.args.pool.now c.args.first.now c.args.raw.now c.loop-one.place c.loop-one.one-index c.loop-one.frames c.locals_behind.result.now c.one-item.result c.in_err-frame.field-0.0 parts c.loop-one.invariant.found c.loop-one.invariant.place c.locals_behind.ensures c.in_err-frame.ensures.fault)

pub loop-one-preserved : goal.loop-one-preserved
loop-one-preserved c =
    let more = flat_map-more frame_bytes c.args.raw.now c.loop-one.one-index c.one-item.result c.loop-one-test.true in
    let sum : c.loop-one.next + c.from.result ≡ next_behind 0 c.loop-one.frames + delta_of c.one-item.result = omega (arith, c.loop-one.invariant.next, c.from.ensures, c.delta_of.ensures) in
    let after : frame_after c.args.pool.now (locals_behind c.args.first.now.locals c.loop-one.frames) c.one-item.result ≡ Some c.in_ok-frame.frame = subst (λ (ls : List VType). frame_after c.args.pool.now ls c.one-item.result ≡ Some c.in_ok-frame.frame) c.locals_behind.ensures c.in_ok-frame.ensures.found in
    record {
      found = rw (take_more c.args.raw.now c.loop-one.one-index c.one-item.result c.loop-one-test.true, ← c.one-item.is)
          (frames_more c.args.pool.now 0 c.args.first.now.locals (take c.loop-one.one-index c.args.raw.now) c.loop-one.frames c.one-item.result c.in_ok-frame.frame c.loop-one.invariant.found after
          ∙ ap (λ (at : ℕ). Some (c.loop-one.frames ++ placed at c.in_ok-frame.frame ∷ [])) (sym sum) ∙ ap (λ (fs : List FrameAt). Some fs) (sym c.in_ok-push.ensures.ok));
      next = sym (ap (next_behind 0) c.in_ok-push.ensures.ok ∙ next_more 0 c.loop-one.frames (placed (c.loop-one.next + c.from.result) c.in_ok-frame.frame));
      few = omega (arith, c.loop-one.invariant.few, c.from.ensures);
      place = omega (arith, (rw (← c.one-item.is) at more), c.loop-one.invariant.place, c.frame_len-place.ensures.len);
      small = omega (arith, c.loop-one.invariant.small, c.frame_len-place.ensures.small);
    }
