-- The frame with which a method starts (JVM Specification 4.10.1.6).
use Rattle.std.specs.Prelude.{◌≡◌, ℕ, Bool, true, false, not, ◌&&◌, ◌==◌, if◌then◌else◌, bytes_eq, codes, List, [], ◌∷◌, ◌++◌, map}
use Rattle.std.specs.Int.{w16}
use Rattle.wv_base.specs.declared.descriptor.Primitive.TheVariants as primitives
use Rattle.wv_base.specs.declared.descriptor.ElementType.{ElementType}
use Rattle.wv_base.specs.declared.descriptor.ElementType.TheVariants as elements
use Rattle.wv_base.specs.declared.descriptor.FieldType.{FieldType}
use Rattle.wv_base.specs.declared.descriptor.MethodType.{MethodType}
use Rattle.wv_base.specs.declared.frame.VType.{VType}
use Rattle.wv_base.specs.declared.frame.VType.TheVariants as vtypes
use Rattle.wv_base.specs.declared.frame.Frame.{Frame}
use Rattle.wv_base.specs.Descriptor.{descriptor_of}

-- the verification type of a type that is no array (4.10.1.2): the small kinds of numbers are ints
abbrev pub element_type : ElementType → VType
element_type (elements.Primitive primitives.Long) = vtypes.Long
element_type (elements.Primitive primitives.Float) = vtypes.Float
element_type (elements.Primitive primitives.Double) = vtypes.Double
element_type (elements.Primitive _) = vtypes.Int
element_type (elements.Class name) = vtypes.Class name

-- and of every type: an array is a class by its descriptor
abbrev pub verification_type : FieldType → VType
verification_type field = if field.dimensions == 0 then element_type field.element else vtypes.Class (descriptor_of field)

-- the type of `this`: in `<init>` it isn't initialized yet
abbrev pub this_type : List ℕ → List ℕ → VType
this_type class name = if bytes_eq name (codes "<init>") then vtypes.UninitializedThis else vtypes.Class class

-- `this`, which a static method doesn't have
abbrev pub this_locals : Bool → List ℕ → List ℕ → List VType
this_locals true class name = []
this_locals false class name = this_type class name ∷ []

-- the frame of a method of the class, static or not, with this name and type: `this` and the parameters
abbrev pub start_frame : Bool → List ℕ → List ℕ → MethodType → Frame
start_frame static class name method = record {
  locals = this_locals static class name ++ map verification_type method.parameters;
  stack = [];
  this_uninitialized = not static && bytes_eq name (codes "<init>");
}
