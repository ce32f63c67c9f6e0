use Rattle.std.proofs.Common.{take}
use Rattle.std.specs.List.{AllByRecursion}
use Rattle.wv_frames.specs.Writing.{IsWritableType}
use Rattle.wv_frames.proofs.writable.are_writable.Given as goal

abbrev pub invariant-loop-kind : goal.invariant-loop-kind
invariant-loop-kind l = AllByRecursion IsWritableType (take l.kind-index l.kinds)
