use Rattle.std.proofs.Common.{◌≡◌, ◌-◌, List, Some, length, sym, subst, ◌∙◌}
use Rattle.std.specs.Prelude.{slice_get}
use Rattle.wv_base.specs.declared.frame.FrameAt.{FrameAt}
use Rattle.wv_frames.proofs.WholeFrames.{last_locals}
use Rattle.wv_frames.proofs.whole.locals_behind.Goals as goal

pub returns-in-Some : goal.returns-in-Some
returns-in-Some c =
    let last : Some c.in-Some.one.now ≡ slice_get c.args.frames.now (length c.args.frames.now - 1) = subst (λ (all : List FrameAt). Some c.in-Some.one.now ≡ slice_get all (length all - 1)) c.as_slice.ensures c.in-Some.ensures.value in
    c.as_slice-in-Some.ensures ∙ sym (last_locals c.args.first.now.locals c.args.frames.now c.in-Some.one.now last)
