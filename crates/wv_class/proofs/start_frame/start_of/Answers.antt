use Rattle.wv_class.proofs.StartFrames.{start_placed}
use Rattle.wv_class.proofs.start_frame.start_of.Goals as goal

pub returns-clause-start : goal.returns-clause-start
returns-clause-start c = rw c.in_ok-start_frame.ensures (start_placed c.is_static-without.result c.in-Some.owner.now c.in-Some-text.name.now c.in-Some-2.kind)
