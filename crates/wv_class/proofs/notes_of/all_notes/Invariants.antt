use Rattle.std.proofs.Common.{take}
use Rattle.wv_class.specs.Meaning.{AreNotesOf}
use Rattle.wv_class.proofs.notes_of.all_notes.Given as goal

abbrev pub invariant-loop-attribute : goal.invariant-loop-attribute
invariant-loop-attribute l = AreNotesOf l.pool (take l.attribute-index l.attributes) l.found
