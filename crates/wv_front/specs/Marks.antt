-- The annotation `@Mixin` of a class, and its priority (Mixin 0.8.5).
use Rattle.std.specs.Prelude.{◌==◌, if◌then◌else◌, ℤ, Bool, Option, Some, None, bytes_eq, codes}
use Rattle.std.specs.List.{find}
use Rattle.wv_base.specs.declared.class_file.ClassFile.{ClassFile}
use Rattle.wv_base.specs.declared.constant.Const.TheVariants.{Integer}
use Rattle.wv_base.specs.declared.note.Annotation.{out-Annotation}
use Rattle.wv_base.specs.declared.note.Element.{Element}
use Rattle.wv_base.specs.declared.note.Element.TheVariants as elements
use Rattle.wv_base.specs.declared.note.NamedElement.{NamedElement, out-NamedElement}
use Rattle.wv_base.specs.declared.note.Note.{Note}

-- the annotation is `@Mixin`
abbrev pub is_mixin_note : Note → Bool
is_mixin_note note = bytes_eq (out-Annotation note.annotation).class (codes "org/spongepowered/asm/mixin/Mixin")

abbrev pub is_priority : NamedElement → Bool
is_priority element = bytes_eq (out-NamedElement element).name (codes "priority")

-- the number that a value is, where it is an int
abbrev pub int_of : Element → Option ℤ
int_of (elements.Constant tag (Integer number)) = if tag == 73 then Some number else None
int_of _ = None

abbrev pub int_within : Option NamedElement → Option ℤ
int_within (Some element) = int_of (out-NamedElement element).value
int_within None = None

abbrev pub priority_within : Option Note → Option ℤ
priority_within (Some note) = int_within (find is_priority (out-Annotation note.annotation).elements)
priority_within None = None

-- the priority that the first `@Mixin` of the class states
abbrev pub stated_priority : ClassFile → Option ℤ
stated_priority class = priority_within (find is_mixin_note class.notes)
