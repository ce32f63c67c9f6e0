use Rattle.std.proofs.Common.{refl, ap, ◌∙◌}
use Rattle.wv_frames.specs.Whole.{frames_from}
use Rattle.wv_frames.proofs.WholeFaults.{gives_only}
use Rattle.wv_frames.proofs.reading.read_frames.Goals as goal

pub returns-clause-only : goal.returns-clause-only
returns-clause-only c = λ all s.
    let same = c.in_ok-raw.ensures.only s.raw s.layout s.spelled refl in
    let r = c.deref.ensures.value in
    gives_only c.args.pool.now c.args.first.now c.deref.result.now all c.whole_frames.result c.whole_frames.ensures.found c.whole_frames.ensures.fault (ap (frames_from c.args.pool.now 0 c.args.first.now.locals) (r ∙ same) ∙ s.whole)
