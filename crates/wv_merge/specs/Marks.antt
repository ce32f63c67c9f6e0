-- The target that an annotation `@Mixin` names (Mixin 0.8.5).
use Rattle.std.specs.Prelude.{◌≡◌, ℕ, List, [], ◌∷◌}
use Rattle.wv_base.specs.declared.note.Element.{Element}
use Rattle.wv_base.specs.declared.note.Element.TheVariants as elements
use Rattle.wv_base.specs.declared.note.Note.{Note}
use Rattle.wv_merge.specs.ThinClass.{HasOneNote, IsMixinNoteOn}

-- the one class of this descriptor
abbrev pub AreOneClass : List ℕ → List Element → Type 0
AreOneClass descriptor classes = classes ≡ elements.Class descriptor ∷ []

-- one of the annotations is the `@Mixin` on the class of this descriptor
abbrev pub AreMixinNotesOn : List ℕ → List Note → Type 0
AreMixinNotesOn descriptor notes = HasOneNote (IsMixinNoteOn descriptor) notes
