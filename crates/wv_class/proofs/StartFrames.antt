-- A method starts with one frame.
use Rattle.std.proofs.Common.{◌≡◌, ℕ, Bool, true, false, ◌==◌, if◌then◌else◌, List, [], ◌∷◌, ◌++◌, map, bytes_eq, codes, Some, sym, ◌∙◌}
use Rattle.std.specs.List.{AllByRecursion}
use Rattle.wv_base.specs.declared.class_file.PoolEntry.{PoolEntry}
use Rattle.wv_base.specs.declared.descriptor.Primitive.TheVariants as primitives
use Rattle.wv_base.specs.declared.descriptor.ElementType.{ElementType}
use Rattle.wv_base.specs.declared.descriptor.ElementType.TheVariants as elements
use Rattle.wv_base.specs.declared.descriptor.FieldType.{FieldType}
use Rattle.wv_base.specs.declared.descriptor.MethodType.{MethodType}
use Rattle.wv_base.specs.declared.frame.VType.TheVariants as vtypes
use Rattle.wv_base.specs.declared.frame.Frame.{Frame}
use Rattle.wv_base.specs.Descriptor.{descriptor_of}
use Rattle.wv_base.proofs.MethodTypes.{method_cancel}
use Rattle.wv_pool.specs.References.{text_of}
use Rattle.wv_pool.specs.Constants.{class_name}
use Rattle.wv_code.specs.Body.{IsPlaced, IsStart}
use Rattle.wv_class.specs.declared.raw_class.RawMember.{RawMember}
use Rattle.wv_class.specs.Flags.{is_static}
use Rattle.wv_class.specs.StartFrame.{element_type, verification_type, this_type, start_frame}
use Rattle.wv_class.specs.Breaks.{StartsWith}

pub one_start : (pool : List PoolEntry) (class : ℕ) (m : RawMember) (a b : Frame) → StartsWith pool class m a → StartsWith pool class m b → a ≡ b
one_start pool class m a b h k =
    let owner : h.owner ≡ k.owner = cc (h.owner_is, k.owner_is) in
    let name : h.name ≡ k.name = cc (h.name_is, k.name_is) in
    let descriptor : h.descriptor ≡ k.descriptor = cc (h.descriptor_is, k.descriptor_is) in
    let kind : h.type ≡ k.type = method_cancel h.type k.type h.type_is.0 k.type_is.0 (sym h.type_is.1 ∙ descriptor ∙ k.type_is.1) in
    h.frame_is ∙ rw (owner, name, kind) (sym k.frame_is)

-- ---- no type of its locals has a place

element_placed : (e : ElementType) → IsPlaced (element_type e)
element_placed (elements.Primitive primitives.Boolean) = tt
element_placed (elements.Primitive primitives.Byte) = tt
element_placed (elements.Primitive primitives.Char) = tt
element_placed (elements.Primitive primitives.Short) = tt
element_placed (elements.Primitive primitives.Int) = tt
element_placed (elements.Primitive primitives.Long) = tt
element_placed (elements.Primitive primitives.Float) = tt
element_placed (elements.Primitive primitives.Double) = tt
element_placed (elements.Class name) = tt

type_placed : (field : FieldType) → IsPlaced (verification_type field)
type_placed field = either (field.dimensions == 0)
  where
    either : (none : Bool) → IsPlaced (if none then element_type field.element else vtypes.Class (descriptor_of field))
    either true = element_placed field.element
    either false = tt

types_placed : (fields : List FieldType) → AllByRecursion IsPlaced (map verification_type fields)
types_placed [] = tt
types_placed (field ∷ fields) = (type_placed field, types_placed fields)

this_placed : (class name : List ℕ) → IsPlaced (this_type class name)
this_placed class name = either (bytes_eq name (codes "<init>"))
  where
    either : (init : Bool) → IsPlaced (if init then vtypes.UninitializedThis else vtypes.Class class)
    either true = tt
    either false = tt

pub start_placed : (without : Bool) (class name : List ℕ) (method : MethodType) → IsStart (start_frame without class name method)
start_placed true class name method = types_placed method.parameters
start_placed false class name method = (this_placed class name, types_placed method.parameters)
