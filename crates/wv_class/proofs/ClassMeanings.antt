-- What stands behind the pool names what it must, where none of it breaks.
use Rattle.std.proofs.Common.{ℕ, List, take, Option}
use Rattle.std.specs.List.{AllByRecursion}
use Rattle.wv_base.specs.declared.class_file.PoolEntry.{PoolEntry}
use Rattle.wv_base.specs.declared.descriptor.FieldType.{FieldType}
use Rattle.wv_pool.specs.Constants.{class_name}
use Rattle.wv_attr.specs.Types.{AreTypes}
use Rattle.wv_code.specs.Breaks.{NamesClass}
use Rattle.wv_class.specs.declared.raw_class.Place.TheVariants as places
use Rattle.wv_class.specs.declared.raw_class.RawRest.{RawRest}
use Rattle.wv_class.specs.Layout.{SpellsMember, SpellsRest}
use Rattle.wv_class.specs.Breaks.{member_len, NamesPlainClass, FieldBreaks, MethodBreaks, fields_place, methods_place, attributes_place, RestBreaks}
use Rattle.wv_class.specs.Breaks as breaks
use Rattle.wv_class.specs.MemberRead.{HaveReadNotes, IsRead}
use Rattle.wv_class.proofs.Lengths.{each_spelled}
use Rattle.wv_class.proofs.RestPlaces.{rest_attributes}
use Rattle.wv_class.proofs.ReadMembers.{found_stable, all_from, all_get, each_unbroken, numbers_hold, class_notes, field_read, method_read}

plain_class : (pool : List PoolEntry) (number : ℕ) → ((NamesPlainClass pool number → ⊥) → ⊥) → NamesClass pool number
plain_class pool number h = found_stable (class_name pool number) (λ no. h (λ p. no (p.0, p.1)))

module _ (pool : List PoolEntry) (types : List (Option FieldType)) (are : AreTypes pool types) (c : RawRest) (near : ℕ) (bytes : List ℕ) (s : SpellsRest pool near c bytes) (none : (at : ℕ) → RestBreaks pool c at → ⊥) where
  pub class_named : NamesClass pool c.class
  class_named = plain_class pool c.class (λ no. none 2 (breaks.class no))

  pub superclass_named : NamesClass pool c.superclass
  superclass_named = plain_class pool c.superclass (λ no. none 4 (breaks.superclass no))

  pub interfaces_named : AllByRecursion (NamesClass pool) c.interfaces
  interfaces_named = numbers_hold 8 c.interfaces (NamesPlainClass pool) (NamesClass pool) (λ at b. none at (breaks.interface b)) (plain_class pool)

  pub fields_read : AllByRecursion (IsRead pool c.class) c.fields
  fields_read =
      all_from (IsRead pool c.class) c.fields
      (λ k m is.
      let spelled = all_get (λ m. (near : ℕ) × (bytes : List ℕ) × SpellsMember pool places.Field near m bytes) c.fields k m (each_spelled (SpellsMember pool places.Field) _ c.fields s.fields.items s.fields.all) is in
      field_read pool types are c.class m (take k c.fields) spelled.0 spelled.1 spelled.2
      (each_unbroken member_len (fields_place c) c.fields (λ k m. FieldBreaks pool c.class (take k c.fields) m) (λ at b. none at (breaks.field b)) k m is))

  pub methods_read : AllByRecursion (IsRead pool c.class) c.methods
  methods_read =
      all_from (IsRead pool c.class) c.methods
      (λ k m is.
      let spelled = all_get (λ m. (near : ℕ) × (bytes : List ℕ) × SpellsMember pool places.Method near m bytes) c.methods k m (each_spelled (SpellsMember pool places.Method) _ c.methods s.methods.items s.methods.all) is in
      method_read pool types are c.class m (take k c.methods) spelled.0 spelled.1 class_named spelled.2
      (each_unbroken member_len (methods_place c) c.methods (λ k m. MethodBreaks pool c.class (take k c.methods) m) (λ at b. none at (breaks.method b)) k m is))

  pub attributes_read : HaveReadNotes pool c.attributes
  attributes_read = class_notes pool types are c.attributes (attributes_place c) (rest_attributes pool near c bytes s) (λ at b. none at (breaks.attribute b))
