use Rattle.std.proofs.lemmas.Bool.{iff_false}
use Rattle.wv_merge.specs.ThinClass.{IsMixinNoteOn}
use Rattle.wv_merge.proofs.NoteTests.{mixin_others, no_mixin, one_of}
use Rattle.wv_merge.proofs.note.one_target.Goals as goal
use Rattle.wv_merge.proofs.note.one_target.Goals.{else-are_other-via-then-are_other+else-are_other-2, else-are_other-via-else-are_other}

pub returns-then-are_other-2 : goal.returns-then-are_other-2
returns-then-are_other-2 c =
    one_of (IsMixinNoteOn c.in-Some.descriptor.now) c.args.notes.now c.loop-place.place c.index-notes-place.result c.loop-place-test.true c.index-notes-place.is (c.in-Some.ensures {u = tt})
    (c.are_other.ensures.0 c.if-are_other.true, c.are_other-then-are_other.ensures.0 c.if-are_other-2.true)

pub returns-in-Some : goal.returns-in-Some
returns-in-Some c = λ d one.
    let others =
    mixin_others c.args.notes.now c.loop-place.place c.index-notes-place.result c.in-Some.descriptor.now d c.loop-place-test.true c.index-notes-place.is c.loop-place.invariant (c.in-Some.ensures {u = tt}) one in
    elim c.else-are_other.branch [
      | else-are_other-via-then-are_other+else-are_other-2 w ↦ iff_false w.are_other-then-are_other.ensures w.if-are_other-2.false others.1
      | else-are_other-via-else-are_other w ↦ iff_false c.are_other.ensures w.if-are_other.false others.0
    ]

pub returns : goal.returns
returns c = no_mixin c.args.notes.now c.loop-place.place c.loop-place-test.false c.loop-place.invariant
