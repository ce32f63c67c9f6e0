use Rattle.std.proofs.Common.{arith}
use Rattle.wv_attr.proofs.Fills.{least_room}
use Rattle.wv_attr.proofs.step.value_at.Goals as goal

pub unreachable-requires : goal.unreachable-requires
unreachable-requires c = omega (arith, least_room c.requires.fits)
