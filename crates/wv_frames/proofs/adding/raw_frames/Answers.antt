use Rattle.std.proofs.Common.{◌≡◌, ◌++◌, ◌∷◌, [], ◌+◌, ℕ, List, length, take, drop, Some, ap, sym, subst, ◌∙◌, refl, arith}
use Rattle.std.proofs.lemmas.List.{take_more, append-nil, length-append}
use Rattle.std.proofs.lemmas.Result.{err_from_is_err_and}
use Rattle.wv_base.specs.declared.constant.Const.{Const}
use Rattle.wv_pool.specs.Adding.{AreTooMany, Grows}
use Rattle.wv_pool.proofs.Entire.{split_at, AllByRecursion-push}
use Rattle.wv_pool.proofs.Lacking.{keeps_then, grows_start}
use Rattle.wv_frames.specs.Spelling.{IsFrame}
use Rattle.wv_frames.specs.Whole.{frames_from, delta_of, locals_behind}
use Rattle.wv_frames.specs.Writing.{frame_needs, frames_need}
use Rattle.wv_frames.proofs.WholeFrames.{placed, next_behind, frames_more, next_more, from_more}
use Rattle.wv_frames.proofs.PoolGrowth.{grows_then, too_many_then, too_many_more, frames_kept, frames_need-more, frames_need-split}
use Rattle.wv_frames.proofs.adding.raw_frames.Goals as goal

pub loop-one-init : goal.loop-one-init
loop-one-init c = rw c.new-raw.ensures.items (record { found = λ before. refl; layout = tt; len = refl; next = refl; from = c.requires.1; kept = ([], sym (append-nil c.args.pool.now)); grows = grows_start c.args.pool.now })

pub returns-in_err-raw_frame-clause-full : goal.returns-in_err-raw_frame-clause-full
returns-in_err-raw_frame-clause-full c =
    let p = err_from_is_err_and c.from_residual.result c.from_residual.ensures.1 in
    let parts : c.args.frames.now ≡ take c.loop-one.one-index c.args.frames.now ++ c.one-item.result ∷ drop (c.loop-one.one-index + 1) c.args.frames.now = rw c.one-item.is (split_at c.args.frames.now c.loop-one.one-index c.one-item.result c.loop-one-test.true) in
    let needs = frames_need-split c.args.frames.now (take c.loop-one.one-index c.args.frames.now) (drop (c.loop-one.one-index + 1) c.args.frames.now) c.one-item.result parts in
    rw (p.1, p.2) (λ full. subst (AreTooMany c.args.pool.now) (sym needs) (too_many_more c.args.pool.now (frames_need (drop (c.loop-one.one-index + 1) c.args.frames.now)) (frame_needs c.one-item.result.frame ++ frames_need (take c.loop-one.one-index c.args.frames.now))
    (too_many_then c.args.pool.now c.loop-one.pool (frames_need (take c.loop-one.one-index c.args.frames.now)) (frame_needs c.one-item.result.frame) c.loop-one.invariant.grows (c.in_err-raw_frame.ensures.full full))))

pub loop-one-preserved : goal.loop-one-preserved
loop-one-preserved c =
    let front = take c.loop-one.one-index c.args.frames.now in
    let raw = c.in_ok-raw_frame.field-0 in
    let from = from_more c.args.frames.now c.loop-one.one-index c.one-item.result c.loop-one.next c.loop-one-test.true (sym c.one-item.is) c.loop-one.invariant.from in
    let sum : next_behind 0 front + delta_of raw ≡ c.one-item.result.at = omega (arith, from.0, c.loop-one.invariant.next, c.in_ok-raw_frame.ensures.frame.1) in
    record {
      found = λ before. rw (take_more c.args.frames.now c.loop-one.one-index c.one-item.result c.loop-one-test.true, ← c.one-item.is)
          (ap (frames_from c.raw_frame.new.pool 0 before) c.in_ok-push.ensures.items
          ∙ frames_more c.raw_frame.new.pool 0 before c.loop-one.raw.items front raw c.one-item.result.frame (frames_kept c.loop-one.pool c.raw_frame.new.pool 0 before c.loop-one.raw.items front c.in_ok-raw_frame.ensures.kept (c.loop-one.invariant.found before)) (c.in_ok-raw_frame.ensures.found (locals_behind before front))
          ∙ ap (λ (at : ℕ). Some (front ++ placed at c.one-item.result.frame ∷ [])) sum);
      layout = rw c.in_ok-push.ensures.items (AllByRecursion-push IsFrame c.loop-one.raw.items raw c.loop-one.invariant.layout c.in_ok-raw_frame.ensures.frame.0);
      len = omega (arith, ap length c.in_ok-push.ensures.items, length-append c.loop-one.raw.items (raw ∷ []), c.loop-one.invariant.len);
      next = rw (take_more c.args.frames.now c.loop-one.one-index c.one-item.result c.loop-one-test.true, ← c.one-item.is) (sym (next_more 0 front c.one-item.result));
      from = from.2;
      kept = keeps_then c.args.pool.now c.loop-one.pool c.raw_frame.new.pool c.loop-one.invariant.kept c.in_ok-raw_frame.ensures.kept;
      grows = rw (take_more c.args.frames.now c.loop-one.one-index c.one-item.result c.loop-one-test.true, ← c.one-item.is)
          (subst (λ (cs : List Const). Grows c.args.pool.now cs c.raw_frame.new.pool) (sym (frames_need-more front c.one-item.result))
          (grows_then c.args.pool.now c.loop-one.pool c.raw_frame.new.pool (frames_need front) (frame_needs c.one-item.result.frame) c.loop-one.invariant.grows c.in_ok-raw_frame.ensures.grows));
    }
