-- A class is a mixin on one class, and no class is one of the game and a mixin.
use Rattle.std.proofs.Common.{◌≡◌, ℕ, List, [], ◌∷◌, ◌++◌, length, codes, Bool, true, false, count_by, refl, ap, sym, ◌∙◌, subst, arith}
use Rattle.std.specs.List.{AllByRecursion}
use Rattle.std.proofs.lemmas.List.{append_cancel_right}
use Rattle.std.proofs.lemmas.Slice.Eq.{bytes_eq-Decides}
use Rattle.wv_base.specs.declared.class_file.ClassFile.{ClassFile}
use Rattle.wv_base.specs.declared.note.Annotation.{out-Annotation}
use Rattle.wv_base.specs.declared.note.Element.{Element}
use Rattle.wv_base.specs.declared.note.Element.TheVariants as elements
use Rattle.wv_base.specs.declared.note.Element.TheOpen.{Element-F, Annotation-F, NamedElement-F}
use Rattle.wv_base.specs.declared.note.Element.TheOpen as layer
use Rattle.wv_base.specs.declared.note.Element.TheFolds.{fold-Element, fold-roll-Element}
use Rattle.wv_base.specs.declared.note.NamedElement.{NamedElement, out-NamedElement}
use Rattle.wv_base.specs.declared.note.Note.{Note}
use Rattle.wv_resolve.specs.Refusal.{IsFirst}
use Rattle.wv_front.specs.Marks.{is_mixin_note}
use Rattle.wv_front.specs.Marked.{HasOneMark}
use Rattle.wv_front.proofs.FirstOnes.{one-first, none-first}
use Rattle.wv_merge.specs.ThinClass.{note_class, IsOtherNote, IsTargetElement, IsPriority, AreMixinElements, alone, before, behind, IsMixinNoteOn, HasOneNote, Targets, IsReadThin, IsThinForm}
use Rattle.wv_model.specs.PlainCode.{Game, Mixin}

-- ---- One target

-- `@Mixin` is of Mixin's packages
not-other : (descriptor : List ℕ) (note : Note) → IsOtherNote note → IsMixinNoteOn descriptor note → ⊥
not-other descriptor note other mixin = other.not_mixin (codes "mixin/Mixin", mixin.of_class)

-- an element is no target and a priority
no-both : (descriptor : List ℕ) (element : NamedElement) → IsTargetElement descriptor element → IsPriority element → ⊥
no-both descriptor element target priority =
    let sizes : 5 ≡ 8 = ap length (sym target.name ∙ priority.name) in
    absurd (omega (arith, sizes))

-- the descriptor of the one class in an array
abbrev first_of : List (List ℕ) → List ℕ
first_of [] = []
first_of (x ∷ xs) = x

abbrev element_around : Element-F (List ℕ) (List ℕ) (List ℕ) → List ℕ
element_around (layer.Constant tag value) = []
element_around (layer.Enum descriptor name) = []
element_around (layer.Class descriptor) = descriptor
element_around (layer.Annotation inside) = []
element_around (layer.Array inside) = first_of inside

abbrev annotation_around : Annotation-F (List ℕ) (List ℕ) (List ℕ) → List ℕ
annotation_around annotation = []

abbrev pair_around : NamedElement-F (List ℕ) (List ℕ) (List ℕ) → List ℕ
pair_around pair = []

abbrev descriptor_in : Element → List ℕ
descriptor_in = fold-Element (List ℕ) (List ℕ) (List ℕ) element_around annotation_around pair_around

at-class : (descriptor : List ℕ) → descriptor_in (elements.Class descriptor) ≡ descriptor
at-class descriptor = ap descriptor_in (sym (elements.rolls-Class descriptor)) ∙ fold-roll-Element (List ℕ) (List ℕ) (List ℕ) element_around annotation_around pair_around (layer.Class descriptor)

at-array : (descriptor : List ℕ) → descriptor_in (elements.Array (elements.Class descriptor ∷ [])) ≡ descriptor
at-array descriptor =
    ap descriptor_in (sym (elements.rolls-Array (elements.Class descriptor ∷ [])))
    ∙ fold-roll-Element (List ℕ) (List ℕ) (List ℕ) element_around annotation_around pair_around (layer.Array (elements.Class descriptor ∷ []))
    ∙ at-class descriptor

same-value : (d e : List ℕ) (element other : NamedElement) → element ≡ other → IsTargetElement d element → IsTargetElement e other → d ≡ e
same-value d e element other same target target' =
    let values : elements.Array (elements.Class d ∷ []) ≡ elements.Array (elements.Class e ∷ []) =
    sym target.value ∙ ap (λ (x : NamedElement). (out-NamedElement x).value) same ∙ target'.value in
    sym (at-array d) ∙ ap descriptor_in values ∙ at-array e

one-value : (d e : List ℕ) (list other : List NamedElement) → list ≡ other → AreMixinElements d list → AreMixinElements e other → d ≡ e
one-value d e list other same (alone {target} is) (alone {target = target'} is') = let first : target ≡ target' = cc in same-value d e target target' first is is'
one-value d e list other same (alone {target} is) (before {target = target'} {priority = priority'} is' has') = cc
one-value d e list other same (alone {target} is) (behind {target = target'} {priority = priority'} is' has') = cc
one-value d e list other same (before {target} {priority} is has) (alone {target = target'} is') = cc
one-value d e list other same (before {target} {priority} is has) (before {target = target'} {priority = priority'} is' has') = let first : target ≡ target' = cc in same-value d e target target' first is is'
one-value d e list other same (before {target} {priority} is has) (behind {target = target'} {priority = priority'} is' has') =
    let first : target ≡ priority' = cc in absurd (no-both d priority' (subst (IsTargetElement d) first is) has')
one-value d e list other same (behind {target} {priority} is has) (alone {target = target'} is') = cc
one-value d e list other same (behind {target} {priority} is has) (before {target = target'} {priority = priority'} is' has') =
    let first : priority ≡ target' = cc in absurd (no-both e target' is' (subst IsPriority first has))
one-value d e list other same (behind {target} {priority} is has) (behind {target = target'} {priority = priority'} is' has') = let second : target ≡ target' = cc in same-value d e target target' second is is'

first-note : {IsSuch : Note → Type 0} (notes : List Note) (one : HasOneNote IsSuch notes) → IsFirst IsOtherNote IsSuch notes one.note
first-note notes one = record { front = one.before; after = one.after; split = one.parts; before = one.others.0; here = one.is_such }

pub one-descriptor : (notes : List Note) (d e : List ℕ) → HasOneNote (IsMixinNoteOn d) notes → HasOneNote (IsMixinNoteOn e) notes → d ≡ e
one-descriptor notes d e one other =
    let same : one.note ≡ other.note = one-first IsOtherNote (IsMixinNoteOn d) (IsMixinNoteOn e) (not-other d) (not-other e) notes one.note other.note (first-note notes one) (first-note notes other) in
    one-value d e (out-Annotation one.note.annotation).elements (out-Annotation other.note.annotation).elements (ap (λ (note : Note). (out-Annotation note.annotation).elements) same) one.is_such.elements other.is_such.elements

pub one-target : (class : ClassFile) (a b : List ℕ) → Targets class a → Targets class b → a ≡ b
one-target class a b one other =
    let same : codes "L" ++ (a ++ codes ";") ≡ codes "L" ++ (b ++ codes ";") = one-descriptor class.notes _ _ one other in
    let behind_l : a ++ codes ";" ≡ b ++ codes ";" = cc in
    append_cancel_right a b (codes ";") behind_l

-- ---- No mixin among the game's classes

pub game-or-mixin : (class : ClassFile) → IsReadThin Game class → IsReadThin Mixin class → ⊥
game-or-mixin class (bytes, (spelled, (small, game))) (bytes', (spelled', (small', mixin))) =
    let (descriptor, one) = mixin.notes in
    none-first IsOtherNote (IsMixinNoteOn descriptor) (not-other descriptor) class.notes one.note game.notes (first-note class.notes one)

-- no other note is a mark
unmarked : (note : Note) (t : Bool) → is_mixin_note note ≡ t → IsOtherNote note → t ≡ false
unmarked note false is other = refl
unmarked note true is other = absurd (other.not_mixin (codes "mixin/Mixin", (bytes_eq-Decides (note_class note) (codes "org/spongepowered/asm/mixin/Mixin")).0 is))

none-marked : (notes : List Note) → AllByRecursion IsOtherNote notes → count_by is_mixin_note notes ≡ 0
none-marked [] others = refl
none-marked (note ∷ notes) others = rw (unmarked note (is_mixin_note note) refl others.0) (none-marked notes others.1)

pub marked-mixin : (class : ClassFile) → IsReadThin Game class → HasOneMark class → ⊥
marked-mixin class (bytes, (spelled, (small, game))) mark = let none = none-marked class.notes game.notes in absurd (omega (arith, none, mark))

pub not-thin_game : (class : ClassFile) (target : List ℕ) → IsThinForm Game class → Targets class target → ⊥
not-thin_game class target game one =
    none-first IsOtherNote (IsMixinNoteOn (codes "L" ++ (target ++ codes ";"))) (not-other (codes "L" ++ (target ++ codes ";"))) class.notes one.note game.notes (first-note class.notes one)
