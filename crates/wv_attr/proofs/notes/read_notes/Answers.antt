use Rattle.std.proofs.Common.{◌≡◌, true, false, refl, sym, subst, ◌∙◌}
use Rattle.std.specs.List.{AllByRecursion}
use Rattle.wv_attr.specs.Layout.{lists}
use Rattle.wv_attr.specs.References.{IsSound}
use Rattle.wv_attr.specs.Meanings.{IsNoteList}
use Rattle.wv_attr.proofs.Missing.{too_long}
use Rattle.wv_attr.proofs.Uniqueness.{sound_unbroken, note_list_one}
use Rattle.wv_attr.proofs.notes.read_notes.Goals as goal

pub returns-then-not-is_short-clause-fault : goal.returns-then-not-is_short-clause-fault
returns-then-not-is_short-clause-fault c = too_long (lists 1) c.args.bytes.now (λ small. let bad : false ≡ true = c.if-not-is_short.ensures.1 small in absurd cc)

pub returns-then-not-is_short-clause-only : goal.returns-then-not-is_short-clause-only
returns-then-not-is_short-clause-only c = λ notes a. let bad : false ≡ true = c.if-not-is_short.ensures.1 a.table.small in absurd cc

pub returns-in-Some-clause-only : goal.returns-in-Some-clause-only
returns-in-Some-clause-only c = λ notes a.
    let same = c.deref.ensures.value ∙ c.in_ok-parts.ensures.only refl a.parts a.table in
    sound_unbroken c.args.pool.now c.deref.result.now c.in-Some.at (subst (AllByRecursion (IsSound c.args.pool.now)) (sym same) a.sound) c.in-Some.ensures.found

pub returns-clause-only : goal.returns-clause-only
returns-clause-only c = λ notes a.
    let same = c.deref-2.ensures.value ∙ c.in_ok-parts.ensures.only refl a.parts a.table in
    note_list_one c.args.pool.now c.args.visible c.deref-2.result.now c.in_ok-notes_of.field-0 notes c.in_ok-notes_of.ensures (subst (IsNoteList c.args.pool.now c.args.visible notes) (sym same) a.notes_are)
