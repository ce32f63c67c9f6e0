-- A thin mixin names one target, and no thin class is a mixin.
use Rattle.std.proofs.Common.{◌≡◌, ◌++◌, ℕ, List, [], ◌∷◌, length, codes, Option, Some, None, MatchOption, Result, Ok, Err, IfOk, refl, ap, sym, ◌∙◌, subst, arith}
use Rattle.wv_base.specs.declared.class_file.ClassFile.{ClassFile}
use Rattle.wv_base.specs.declared.note.Annotation.{Annotation, out-Annotation}
use Rattle.wv_base.specs.declared.note.Element.{Element, out-Element}
use Rattle.wv_base.specs.declared.note.Element.TheOpen.{Element-F}
use Rattle.wv_base.specs.declared.note.Element.TheOpen as layer
use Rattle.wv_base.specs.declared.note.Element.TheVariants as elements
use Rattle.wv_base.specs.declared.note.NamedElement.{NamedElement, out-NamedElement}
use Rattle.wv_base.specs.declared.note.Note.{Note}
use Rattle.wv_base.specs.Folder.{File}
use Rattle.std.proofs.lemmas.List.{append_cancel_right}
use Rattle.wv_classes.specs.declared.folder_class.FolderClass.{FolderClass}
use Rattle.wv_front.proofs.FirstOnes.{one-first, none-first}
use Rattle.wv_merge.specs.ThinClass.{IsOtherNote, IsTargetElement, IsPriority, AreMixinElements, alone, before, behind, IsMixinNoteOn, HasOneNote}
use Rattle.wv_model.specs.PlainCode.{Game, Mixin}
use Rattle.wv_resolve.specs.Refusal.{IsFirst}
use Rattle.wv_classes.specs.Refusal.{IsTextOf}
use Rattle.wv_form.specs.FileForm.{IsThinFile, HasTarget}
use Rattle.wv_form.specs.Kinds.{IsTargetText, IsTargetOf}
use Rattle.wv_form.specs.Mention.{text_of_name}
use Rattle.wv_form.proofs.NameTexts.{text-is, is-text}

-- ---- The elements of an annotation

-- a target with so many elements, and the place of it
data Shape (descriptor : List ℕ) (list : List NamedElement) : Type 0 where
  one : (target : NamedElement) → IsTargetElement descriptor target → list ≡ target ∷ [] → Shape descriptor list
  first : (target priority : NamedElement) → IsTargetElement descriptor target → list ≡ target ∷ priority ∷ [] → Shape descriptor list
  second : (target priority : NamedElement) → IsTargetElement descriptor target → IsPriority priority → list ≡ priority ∷ target ∷ [] → Shape descriptor list

shape : (descriptor : List ℕ) (list : List NamedElement) → AreMixinElements descriptor list → Shape descriptor list
shape descriptor list (alone {target} is) = one target is refl
shape descriptor list (before {target} {priority} is number) = first target priority is refl
shape descriptor list (behind {target} {priority} is number) = second target priority is number refl

-- the elements of a value, and the descriptor of a class
listed : Element-F Element Annotation NamedElement → List Element
listed (layer.Array items) = items
listed _ = []

class_of : Element-F Element Annotation NamedElement → List ℕ
class_of (layer.Class descriptor) = descriptor
class_of _ = []

head_of : List Element → Element → Element
head_of [] none = none
head_of (e ∷ more) none = e

same-value : (descriptor other : List ℕ) (target target' : NamedElement) → IsTargetElement descriptor target → IsTargetElement other target' → target ≡ target' → descriptor ≡ other
unfolding listed class_of head_of
same-value descriptor other target target' h h' same =
    let values : elements.Array (elements.Class descriptor ∷ []) ≡ elements.Array (elements.Class other ∷ []) =
    sym h.value ∙ ap (λ (e : NamedElement). (out-NamedElement e).value) same ∙ h'.value in
    let classes : elements.Class descriptor ∷ [] ≡ elements.Class other ∷ [] =
    ap listed (sym (elements.outs-Array (elements.Class descriptor ∷ [])) ∙ ap out-Element values ∙ elements.outs-Array (elements.Class other ∷ [])) in
    let class : elements.Class descriptor ≡ elements.Class other = ap (λ es. head_of es (elements.Class descriptor)) classes in
    ap class_of (sym (elements.outs-Class descriptor) ∙ ap out-Element class ∙ elements.outs-Class other)

lengths : {A : Type 0} (xs ys : List A) → xs ≡ ys → length xs ≡ length ys
lengths xs ys e = ap length e

not-priority : (descriptor : List ℕ) (target priority : NamedElement) → IsTargetElement descriptor target → IsPriority priority → target ≡ priority → ⊥
not-priority descriptor target priority h number same =
    let many = lengths (codes "value") (codes "priority") (sym h.name ∙ ap (λ (e : NamedElement). (out-NamedElement e).name) same ∙ number.name) in
    omega (arith, many)

one-shape : (descriptor other : List ℕ) (list : List NamedElement) → Shape descriptor list → Shape other list → descriptor ≡ other
one-shape descriptor other list (one target h e) (one target' h' e') =
    let same : target ≡ target' = cc in same-value descriptor other target target' h h' same
one-shape descriptor other list (one target h e) (first target' priority' h' e') =
    let many = lengths (target ∷ []) (target' ∷ priority' ∷ []) (sym e ∙ e') in absurd (omega (arith, many))
one-shape descriptor other list (one target h e) (second target' priority' h' number' e') =
    let many = lengths (target ∷ []) (priority' ∷ target' ∷ []) (sym e ∙ e') in absurd (omega (arith, many))
one-shape descriptor other list (first target priority h e) (one target' h' e') =
    let many = lengths (target ∷ priority ∷ []) (target' ∷ []) (sym e ∙ e') in absurd (omega (arith, many))
one-shape descriptor other list (first target priority h e) (first target' priority' h' e') =
    let same : target ≡ target' = cc in same-value descriptor other target target' h h' same
one-shape descriptor other list (first target priority h e) (second target' priority' h' number' e') =
    let same : target ≡ priority' = cc in absurd (not-priority descriptor target priority' h number' same)
one-shape descriptor other list (second target priority h number e) (one target' h' e') =
    let many = lengths (priority ∷ target ∷ []) (target' ∷ []) (sym e ∙ e') in absurd (omega (arith, many))
one-shape descriptor other list (second target priority h number e) (first target' priority' h' e') =
    let same : target' ≡ priority = cc in absurd (not-priority other target' priority h' number same)
one-shape descriptor other list (second target priority h number e) (second target' priority' h' number' e') =
    let same : target ≡ target' = cc in same-value descriptor other target target' h h' same

-- ---- The annotation

not-other : (descriptor : List ℕ) (note : Note) → IsOtherNote note → IsMixinNoteOn descriptor note → ⊥
not-other descriptor note is_other h = is_other.not_mixin (codes "mixin/Mixin", h.of_class)

first-note : (IsSuch : Note → Type 0) (notes : List Note) (h : HasOneNote IsSuch notes) → IsFirst IsOtherNote IsSuch notes h.note
first-note IsSuch notes h = record { front = h.before; after = h.after; split = h.parts; before = h.others.0; here = h.is_such }

-- annotations name one target
pub one-target : (notes : List Note) (descriptor other : List ℕ) → HasOneNote (IsMixinNoteOn descriptor) notes → HasOneNote (IsMixinNoteOn other) notes → descriptor ≡ other
one-target notes descriptor other h h' =
    let same : h.note ≡ h'.note = one-first IsOtherNote (IsMixinNoteOn descriptor) (IsMixinNoteOn other) (not-other descriptor) (not-other other) notes h.note h'.note (first-note (IsMixinNoteOn descriptor) notes h) (first-note (IsMixinNoteOn other) notes h') in
    let here : IsMixinNoteOn descriptor h'.note = subst (IsMixinNoteOn descriptor) same h.is_such in
    one-shape descriptor other (out-Annotation h'.note.annotation).elements
    (shape descriptor (out-Annotation h'.note.annotation).elements here.elements)
    (shape other (out-Annotation h'.note.annotation).elements h'.is_such.elements)

-- no thin class is a thin mixin
pub thin-apart : (folder : List File) (file : FolderClass) → IsThinFile folder Game file → IsThinFile folder Mixin file → ⊥
thin-apart folder file game mixin =
    let same : mixin.class ≡ game.class = cc (game.read, mixin.read) in
    let (descriptor, on) = mixin.thin.1.notes in
    let here : HasOneNote (IsMixinNoteOn descriptor) game.class.notes = subst (λ (c : ClassFile). HasOneNote (IsMixinNoteOn descriptor) c.notes) same on in
    none-first IsOtherNote (IsMixinNoteOn descriptor) (not-other descriptor) game.class.notes here.note game.thin.1.notes (first-note (IsMixinNoteOn descriptor) game.class.notes here)

-- a class has one target
same-name : (name other : List ℕ) → codes "L" ++ (name ++ codes ";") ≡ codes "L" ++ (other ++ codes ";") → name ≡ other
same-name name other e =
    let rest : name ++ codes ";" ≡ other ++ codes ";" = cc in
    append_cancel_right name other (codes ";") rest

same-spelling : (units text other : List ℕ) → IsTextOf units text → IsTextOf units other → text ≡ other
same-spelling units text other h h' =
    let e : Some text ≡ Some other = sym (is-text units text h) ∙ is-text units other h' in cc

pub one-name : (class : ClassFile) (text other : List ℕ) → HasTarget class text → HasTarget class other → text ≡ other
one-name class text other (name, on, spells) (name', on', spells') =
    let same : name ≡ name' = same-name name name' (one-target class.notes (codes "L" ++ (name ++ codes ";")) (codes "L" ++ (name' ++ codes ";")) on on') in
    same-spelling name' text other (subst (λ (n : List ℕ). IsTextOf n text) same spells) spells'

-- the text of the name in a descriptor is that of the target
pub target-of : {E : Type 0} (descriptor name : List ℕ) (r : Result (Option (List ℕ)) E) → descriptor ≡ codes "L" ++ (name ++ codes ";") → IfOk r (λ text. text ≡ text_of_name name) → IfOk r (λ target. MatchOption target ((text : List ℕ) → IsTargetText descriptor text → ⊥) (IsTargetText descriptor))
target-of descriptor name (Err e) is h = tt
target-of descriptor name (Ok None) is h = λ text (name', is', spells).
    let same : name' ≡ name = same-name name' name (sym is' ∙ is) in
    let some : None ≡ Some text = h ∙ is-text name text (subst (λ (n : List ℕ). IsTextOf n text) same spells) in
    cc
target-of descriptor name (Ok (Some text)) is h = (name, is, text-is name text (sym h))

-- and the target of a class is what its one `@Mixin` is on
pub target-is : (class : ClassFile) (descriptor : List ℕ) (target : Option (List ℕ)) → HasOneNote (IsMixinNoteOn descriptor) class.notes → MatchOption target ((text : List ℕ) → IsTargetText descriptor text → ⊥) (IsTargetText descriptor) → IsTargetOf class target
target-is class descriptor None on h = λ text (name, on', spells).
    h text (name, one-target class.notes descriptor (codes "L" ++ (name ++ codes ";")) on on', spells)
target-is class descriptor (Some text) on (name, is, spells) =
    (name, subst (λ (d : List ℕ). HasOneNote (IsMixinNoteOn d) class.notes) is on, spells)

pub target-told : {E : Type 0} (class : ClassFile) (descriptor : List ℕ) (r : Result (Option (List ℕ)) E) → HasOneNote (IsMixinNoteOn descriptor) class.notes
    → IfOk r (λ target. MatchOption target ((text : List ℕ) → IsTargetText descriptor text → ⊥) (IsTargetText descriptor)) → IfOk r (IsTargetOf class)
target-told class descriptor (Ok target) on h = target-is class descriptor target on h
target-told class descriptor (Err e) on h = tt

-- a class without one `@Mixin` has none
pub without-note : (class : ClassFile) → ((descriptor : List ℕ) → HasOneNote (IsMixinNoteOn descriptor) class.notes → ⊥) → IsTargetOf class None
without-note class none = λ text (name, on, spells). none (codes "L" ++ (name ++ codes ";")) on
