use Rattle.wv_merge.specs.Marks.{AreMixinNotesOn}
use Rattle.wv_merge.proofs.NoteTests.{found_some}
use Rattle.wv_merge.proofs.note.has_mixin.Goals as goal

pub returns : goal.returns
returns c = rw c.is_some.ensures (found_some c.one_target.result (λ r. r.now) (λ d. AreMixinNotesOn d c.args.notes.now) c.one_target.ensures)
