use Rattle.std.proofs.Common.{arith}
use Rattle.wv_room.proofs.Growth.{past_elements}
use Rattle.wv_room.proofs.element_count.ElementCountAllows.allows_value.Goals as goal

pub returns-in-None : goal.returns-in-None
returns-in-None c = (λ t. absurd cc, λ fill. absurd (past_elements c.args.self.now.kind c.args.value c.args.value c.args.self.now.room c.args.self.now.besides (omega (arith, c.in-None.ensures.many)) (omega arith) fill))
