-- The types that stand at the front of units, whose class names are still among these (our own).
use Rattle.wv_base.specs.declared.descriptor.ElementType.{ElementType}
use Rattle.wv_base.specs.declared.descriptor.ElementType.TheVariants as elements
use Rattle.wv_base.specs.declared.descriptor.FieldType.{FieldType}
use Rattle.wv_desc.specs.declared.front.ElementFront.{ElementFront}
use Rattle.wv_desc.specs.declared.front.ElementFront.TheVariants as fronts
use Rattle.wv_desc.specs.declared.front.FieldFront.{FieldFront}

-- the type, with the class's name as a list of its own
abbrev pub element_of : ElementFront → ElementType
element_of (fronts.Primitive primitive) = elements.Primitive primitive
element_of (fronts.Class name) = elements.Class name.now

-- the same of an array's type
abbrev pub field_of : FieldFront → FieldType
field_of field = record { element = element_of field.element; dimensions = field.dimensions }
