use Rattle.wv_merge.proofs.NoteTests.{none_of, one_overwrite}
use Rattle.wv_merge.specs.ThinClass.{IsOverwriteNote}
use Rattle.wv_merge.proofs.note.has_overwrite.Goals as goal

pub returns-then-are_other : goal.returns-then-are_other
returns-then-are_other c =
    let test = one_overwrite c.args.notes.now c.loop-place.place c.index-notes-place.result c.loop-place-test.true c.index-notes-place.is c.loop-place.invariant (c.is_overwrite.ensures.0 c.if-is_overwrite.true) in
    (λ t. test.0 (c.are_other.ensures.0 c.if-are_other.true, c.are_other-then-are_other.ensures.0 t), λ one. c.are_other-then-are_other.ensures.1 (test.1 one).1)

pub returns-else-are_other : goal.returns-else-are_other
returns-else-are_other c =
    let test = one_overwrite c.args.notes.now c.loop-place.place c.index-notes-place.result c.loop-place-test.true c.index-notes-place.is c.loop-place.invariant (c.is_overwrite.ensures.0 c.if-is_overwrite.true) in
    (λ t. absurd cc, λ one. c.are_other.ensures.1 (test.1 one).0)

pub returns : goal.returns
returns c =
    (λ t. absurd cc, λ one. absurd (none_of IsOverwriteNote c.args.notes.now c.loop-place.place c.loop-place-test.false c.loop-place.invariant one))
