use Rattle.std.proofs.Common.{length}
use Rattle.wv_class.specs.Formed.{AreFormedNotes}
use Rattle.wv_class.proofs.formed_notes.are_formed_notes.Given as goal

abbrev pub invariant-loop-rest : goal.invariant-loop-rest
invariant-loop-rest l = record {
  whole : AreFormedNotes l.place l.rest → AreFormedNotes l.place l.notes;
  part : AreFormedNotes l.place l.notes → AreFormedNotes l.place l.rest;
}

abbrev pub decreases-loop-rest : goal.decreases-loop-rest
decreases-loop-rest l = length l.rest
