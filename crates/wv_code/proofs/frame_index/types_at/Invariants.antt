use Rattle.std.proofs.Common.{take}
use Rattle.wv_code.specs.Body.{AreTypesOf}
use Rattle.wv_code.proofs.frame_index.types_at.Given as goal

abbrev pub invariant-loop-kind : goal.invariant-loop-kind
invariant-loop-kind l = AreTypesOf l.offsets (take l.kind-index l.kinds) l.types
