use Rattle.std.proofs.Common.{take}
use Rattle.wv_code.specs.Body.{AreTypesOf}
use Rattle.wv_code.proofs.offset_frame.offset_types.Given as goal

abbrev pub invariant-loop-kind : goal.invariant-loop-kind
invariant-loop-kind l = AreTypesOf l.offsets l.raws (take l.kind-index l.kinds)
