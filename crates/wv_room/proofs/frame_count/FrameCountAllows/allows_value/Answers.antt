use Rattle.std.proofs.Common.{arith}
use Rattle.wv_room.proofs.Growth.{past_frames}
use Rattle.wv_room.proofs.frame_count.FrameCountAllows.allows_value.Goals as goal

pub returns-in-None : goal.returns-in-None
returns-in-None c = (λ t. absurd cc, λ fill. absurd (past_frames c.args.self.now.kind c.args.value c.args.value c.args.self.now.room c.args.self.now.besides (omega (arith, c.in-None.ensures.many)) (omega arith) fill))
