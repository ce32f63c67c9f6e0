-- A pool may hold what a formed class names.
use Rattle.std.proofs.Common.{◌≡◌, ℕ, ◌<◌, Bool, List, [], ◌∷◌, ◌++◌, Option, Some, None, map, sym, subst, inl, arith}
use Rattle.std.specs.List.{AllByRecursion}
use Rattle.wv_base.specs.declared.class_file.PoolEntry.{PoolEntry}
use Rattle.wv_base.specs.declared.class_file.Body.{Body}
use Rattle.wv_base.specs.declared.class_file.Member.{Member}
use Rattle.wv_base.specs.declared.class_file.ClassFile.{ClassFile}
use Rattle.wv_base.specs.declared.constant.Const.{Const}
use Rattle.wv_base.specs.declared.constant.Const.TheVariants as constants
use Rattle.wv_base.specs.declared.note.Note.{Note}
use Rattle.wv_pool.specs.Allowed.{IsShort, IsClassText, IsAllowed}
use Rattle.wv_code.proofs.BodyWritten.{body_allowed}
use Rattle.wv_code.proofs.Lists.{AllByRecursion-map}
use Rattle.wv_code.proofs.OffsetFrames.{all_append}
use Rattle.wv_class.specs.declared.raw_class.Place.{Place}
use Rattle.wv_class.specs.declared.raw_class.Place.TheVariants as places
use Rattle.wv_class.specs.Enterable.{IsWritableOf, IsWritableTable, AreWritableTables, IsWritableBody, IsEnterable}
use Rattle.wv_class.specs.Formed.{IsFormedTableOf, IsFormedTable, AreFormedNotes, IsFormedValue, IsFormedField, HasFormedBody, IsFormedMethod, IsFormedClassName, IsFormedClass}
use Rattle.wv_class.specs.Needs.{value_constants, code_constants, exceptions_constants, member_constants, head_constants}
use Rattle.wv_class.specs.Tables.{tables_of}

-- ---- Annotations

writable_of : (place : Place) (parameter : Option ℕ) (notes : List Note) → IsFormedTableOf place parameter notes → IsWritableOf parameter notes
writable_of places.Class None notes h = h
writable_of places.Field None notes h = h
writable_of places.Method None notes h = h
writable_of places.Class (Some parameter) notes h = absurd h
writable_of places.Field (Some parameter) notes h = absurd h
writable_of places.Method (Some parameter) notes h = h

writable_table : (place : Place) (table : List Note) → IsFormedTable place table → IsWritableTable table
writable_table place [] h = tt
writable_table place (note ∷ notes) h = writable_of place note.parameter (note ∷ notes) h

pub writable_tables : (place : Place) (notes : List Note) → AreFormedNotes place notes → AreWritableTables notes
writable_tables place notes h = AllByRecursion-map (IsFormedTable place) IsWritableTable (tables_of notes) (writable_table place) h

-- ---- The parts of a field or a method

value_allowed : (descriptor : List ℕ) (value : Option Const) → IsFormedValue descriptor value → AllByRecursion IsAllowed (value_constants value)
value_allowed descriptor None h = tt
value_allowed descriptor (Some value) h = (omega arith, (h.1, tt))

code_allowed : (body : Option Body) → IsWritableBody body → AllByRecursion IsAllowed (code_constants body)
code_allowed None h = tt
code_allowed (Some body) h = (omega arith, body_allowed h.0 body h.1)

classes_allowed : (names : List (List ℕ)) → AllByRecursion IsClassText names → AllByRecursion IsAllowed (map (λ n. constants.Class n) names)
classes_allowed [] h = tt
classes_allowed (name ∷ names) h = (h.0, classes_allowed names h.1)

exceptions_allowed : (names : List (List ℕ)) → AllByRecursion IsClassText names → AllByRecursion IsAllowed (exceptions_constants names)
exceptions_allowed [] h = tt
exceptions_allowed (name ∷ names) h = (omega arith, classes_allowed (name ∷ names) h)

members_allowed : (m : Member) → IsShort m.name → IsShort m.descriptor → AllByRecursion IsAllowed (value_constants m.value) → AllByRecursion IsAllowed (code_constants m.body) → AllByRecursion IsAllowed (exceptions_constants m.throws)
    → AllByRecursion IsAllowed (member_constants m)
members_allowed m name descriptor value code exceptions = (
  name,
  (
    descriptor,
    all_append IsAllowed (value_constants m.value) (code_constants m.body ++ exceptions_constants m.throws) value (all_append IsAllowed (code_constants m.body) (exceptions_constants m.throws) code exceptions),
  ),
)

writable_body : (pool : List PoolEntry) (bodiless : Bool) (body : Option Body) → HasFormedBody pool bodiless body → IsWritableBody body
writable_body pool bodiless None h = tt
writable_body pool bodiless (Some body) h = (pool, h.1)

-- ---- Fields and methods

enterable_field : (pool : List PoolEntry) (m : Member) → IsFormedField pool m → IsEnterable m
enterable_field pool m formed =
    let body = subst IsWritableBody (sym formed.no_body) tt in
    record {
      constants = members_allowed m formed.name.1 formed.descriptor.1 (value_allowed m.descriptor m.value formed.value) (code_allowed m.body body) (exceptions_allowed m.throws (subst (AllByRecursion IsClassText) (sym formed.no_throws) tt));
      body = body;
      notes = writable_tables places.Field m.notes formed.notes;
    }

enterable_method : (pool : List PoolEntry) (m : Member) → IsFormedMethod pool m → IsEnterable m
enterable_method pool m formed =
    let body = writable_body pool _ m.body formed.body in
    record {
      constants = members_allowed m formed.name.1 formed.descriptor.1 (subst (λ (v : Option Const). AllByRecursion IsAllowed (value_constants v)) (sym formed.no_value) tt) (code_allowed m.body body) (exceptions_allowed m.throws formed.throws);
      body = body;
      notes = writable_tables places.Method m.notes formed.notes;
    }

-- ---- Classes

class_text : (name : List ℕ) → IsFormedClassName name → IsClassText name
class_text name h = (h.1, inl h.0)

module _ (c : ClassFile) (formed : IsFormedClass c) where
  pub head_allowed : AllByRecursion IsAllowed (head_constants c)
  head_allowed = (class_text c.name formed.name, (class_text c.superclass formed.superclass, classes_allowed c.interfaces (AllByRecursion-map IsFormedClassName IsClassText c.interfaces class_text formed.interfaces)))

  pub fields_enterable : AllByRecursion IsEnterable c.fields
  fields_enterable = AllByRecursion-map (IsFormedField c.pool) IsEnterable c.fields (enterable_field c.pool) formed.fields

  pub methods_enterable : AllByRecursion IsEnterable c.methods
  methods_enterable = AllByRecursion-map (IsFormedMethod c.pool) IsEnterable c.methods (enterable_method c.pool) formed.methods

  pub notes_writable : AreWritableTables c.notes
  notes_writable = writable_tables places.Class c.notes formed.notes
