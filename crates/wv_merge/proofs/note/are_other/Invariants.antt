use Rattle.std.proofs.Common.{take}
use Rattle.std.specs.List.{AllByRecursion}
use Rattle.wv_merge.specs.ThinClass.{IsOtherNote}
use Rattle.wv_merge.proofs.note.are_other.Given as goal

abbrev pub invariant-loop-note : goal.invariant-loop-note
invariant-loop-note l = AllByRecursion IsOtherNote (take l.note-index l.notes)
