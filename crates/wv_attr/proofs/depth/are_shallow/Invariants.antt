use Rattle.std.proofs.Common.{take}
use Rattle.wv_attr.specs.Writing.{AreShallow}
use Rattle.wv_attr.proofs.depth.are_shallow.Given as goal

abbrev pub invariant-loop-note : goal.invariant-loop-note
invariant-loop-note l = AreShallow (take l.note-index l.notes)
