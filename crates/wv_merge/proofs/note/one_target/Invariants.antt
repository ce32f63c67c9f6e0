use Rattle.std.proofs.Common.{take}
use Rattle.std.specs.List.{AllByRecursion}
use Rattle.wv_merge.proofs.NoteTests.{IsOnNone}
use Rattle.wv_merge.proofs.note.one_target.Given as goal

abbrev pub invariant-loop-place : goal.invariant-loop-place
invariant-loop-place l = AllByRecursion IsOnNone (take l.place l.notes)
