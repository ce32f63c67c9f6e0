use Rattle.wv_base.specs.declared.fault.ClassFault.TheVariants as faults
use Rattle.wv_frames.specs.Answers.{ReferencesBreak}
use Rattle.wv_code.specs.Breaks.{named}
use Rattle.wv_code.proofs.Placing.{frames_placed}
use Rattle.wv_code.proofs.frame_index.frames_of.Goals as goal

pub frames_at-requires-clause-placed : goal.frames_at-requires-clause-placed
frames_at-requires-clause-placed c =
    rw (c.as_slice.ensures, c.as_slice-in-Ok.ensures) (frames_placed c.args.pool.now c.args.first.now c.args.code.now c.args.raws.now c.in-Ok.whole c.requires.start c.requires.sound c.in-Ok.ensures.found)

pub unreachable-requires-in-Reference : goal.unreachable-requires-in-Reference
unreachable-requires-in-Reference c =
    let breaks : ReferencesBreak c.args.pool.now c.args.first.now c.args.raws.now (faults.Reference c.in-Reference.at) = rw c.in-Reference.is at c.in-Err.ensures.fault in
    c.requires.sound c.in-Reference.at (named breaks)
