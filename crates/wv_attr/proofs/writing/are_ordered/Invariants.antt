use Rattle.std.proofs.Common.{drop}
use Rattle.wv_attr.specs.Writing.{AreOrdered}
use Rattle.wv_attr.proofs.writing.are_ordered.Given as goal

abbrev pub invariant-loop-note : goal.invariant-loop-note
invariant-loop-note l = record {
  whole : AreOrdered l.least l.count (drop l.note-index l.notes) → AreOrdered 0 l.count l.notes;
  part : AreOrdered 0 l.count l.notes → AreOrdered l.least l.count (drop l.note-index l.notes);
}
