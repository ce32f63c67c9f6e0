-- The fields and methods of a formed class can be written, with a pool that has grown from its own and has its constants.
use Rattle.std.proofs.Common.{◌≡◌, ℕ, suc, Bool, true, false, if◌then◌else◌, List, [], ◌∷◌, Option, Some, None, refl, sym, subst, inl, inr}
use Rattle.std.specs.List.{AllByRecursion}
use Rattle.wv_base.specs.declared.class_file.PoolEntry.{PoolEntry}
use Rattle.wv_base.specs.declared.class_file.Attribute.{Attribute}
use Rattle.wv_base.specs.declared.class_file.Body.{Body}
use Rattle.wv_base.specs.declared.class_file.Member.{Member}
use Rattle.wv_base.specs.declared.class_file.ClassFile.{ClassFile}
use Rattle.wv_base.specs.declared.note.Note.{Note}
use Rattle.wv_pool.specs.Adding.{Keeps}
use Rattle.wv_pool.specs.Numbers.{Named}
use Rattle.wv_code.specs.WritingBody.{HasRoom}
use Rattle.wv_code.proofs.BodyWritten.{formed_on}
use Rattle.wv_code.proofs.Lists.{AllByRecursion-map}
use Rattle.wv_class.specs.declared.raw_class.Place.{Place}
use Rattle.wv_class.specs.declared.raw_class.Place.TheVariants as places
use Rattle.wv_class.specs.Appending.{IsWritableOf, IsWritableTable, AreWritableTables, IsWritableBody, IsWritableMember}
use Rattle.wv_class.specs.Formed.{IsFormedKept, AreFormedKept, IsFormedTableOf, IsFormedTable, AreFormedNotes, HasFormedBody, IsFormedField, IsFormedMethod, IsFormedClass}
use Rattle.wv_class.specs.Limits.{HasLong, SomeHasLong, HasLongList}
use Rattle.wv_class.specs.Needs.{member_needs, class_needs}
use Rattle.wv_class.specs.Tables.{follows, with_tables, tables_of}
use Rattle.wv_class.proofs.NeededParts.{class_fields, class_methods}

-- ---- Annotations

-- a table has an annotation
abbrev HasNote : List Note → Type 0
HasNote [] = ⊥
HasNote (note ∷ notes) = Unit {0}

with_some : (note : Note) (tables : List (List Note)) → AllByRecursion HasNote tables → AllByRecursion HasNote (with_tables note tables)
with_some note [] h = (tt, tt)
with_some note ([] ∷ others) h = absurd h.0
with_some note ((next ∷ table) ∷ others) h = by_test (follows note next)
  where
    by_test : (test : Bool) → AllByRecursion HasNote (if test then (note ∷ next ∷ table) ∷ others else (note ∷ []) ∷ (next ∷ table) ∷ others)
    by_test true = (tt, h.1)
    by_test false = (tt, h)

tables_some : (notes : List Note) → AllByRecursion HasNote (tables_of notes)
tables_some [] = tt
tables_some (note ∷ notes) = with_some note (tables_of notes) (tables_some notes)

writable_of : (place : Place) (parameter : Option ℕ) (notes : List Note) → IsFormedTableOf place parameter notes → IsWritableOf parameter notes
writable_of places.Class None notes h = h
writable_of places.Field None notes h = h
writable_of places.Method None notes h = h
writable_of places.Class (Some parameter) notes h = absurd h
writable_of places.Field (Some parameter) notes h = absurd h
writable_of places.Method (Some parameter) notes h = h

each_writable : (place : Place) (tables : List (List Note)) → AllByRecursion HasNote tables → AllByRecursion (IsFormedTable place) tables → AllByRecursion IsWritableTable tables
each_writable place [] some h = tt
each_writable place ([] ∷ tables) some h = absurd some.0
each_writable place ((note ∷ notes) ∷ tables) some h = (writable_of place note.parameter (note ∷ notes) h.0, each_writable place tables some.1 h.1)

pub tables_writable : (place : Place) (notes : List Note) → AreFormedNotes place notes → AreWritableTables notes
tables_writable place notes h = each_writable place (tables_of notes) (tables_some notes) h

-- ---- The other parts of a field or a method

pub kept_room : (pool : List PoolEntry) (place : Place) (kept : List Attribute) → AreFormedKept pool place kept → AllByRecursion HasRoom kept
kept_room pool place kept h = AllByRecursion-map (IsFormedKept pool place) HasRoom kept (λ a k. k.2) h

writable_body : (old new : List PoolEntry) (bodiless : Bool) (body : Option Body) → Keeps old new → HasFormedBody old bodiless body → IsWritableBody new body
writable_body old new bodiless None grown h = tt
writable_body old new bodiless (Some body) grown h = formed_on old new body grown h.1

none_long : (members : List Member) → (SomeHasLong members → ⊥) → AllByRecursion (λ (m : Member). HasLong m → ⊥) members
none_long [] none = tt
none_long (m ∷ members) none = (λ h. none (0, m, refl, h), none_long members (λ some. none (suc some.0, some.1, some.2, some.3)))

-- what follows from three facts of each
all_from : (P Q R S : Member → Type 0) (members : List Member) → ((m : Member) → P m → Q m → R m → S m) → AllByRecursion P members → AllByRecursion Q members → AllByRecursion R members → AllByRecursion S members
all_from P Q R S [] f p q r = tt
all_from P Q R S (m ∷ members) f p q r = (f m p.0 q.0 r.0, all_from P Q R S members f p.1 q.1 r.1)

-- ---- Fields and methods

module _ (old new : List PoolEntry) (grown : Keeps old new) where
  writable_field : (m : Member) → IsFormedField old m → (HasLong m → ⊥) → AllByRecursion (Named new) (member_needs m) → IsWritableMember new m
  writable_field m formed few named = record {
    body = subst (IsWritableBody new) (sym formed.no_body) tt;
    notes = tables_writable places.Field m.notes formed.notes;
    kept = kept_room old places.Field m.kept formed.kept;
    few = few;
    named = named;
  }

  writable_method : (m : Member) → IsFormedMethod old m → (HasLong m → ⊥) → AllByRecursion (Named new) (member_needs m) → IsWritableMember new m
  writable_method m formed few named = record {
    body = writable_body old new _ m.body grown formed.body;
    notes = tables_writable places.Method m.notes formed.notes;
    kept = kept_room old places.Method m.kept formed.kept;
    few = few;
    named = named;
  }

-- ---- The class

module _ (c : ClassFile) (new : List PoolEntry) (formed : IsFormedClass c) (few : HasLongList c → ⊥) (grown : Keeps c.pool new) (named : AllByRecursion (Named new) (class_needs c)) where
  pub fields_writable : AllByRecursion (IsWritableMember new) c.fields
  fields_writable =
      all_from (IsFormedField c.pool) (λ m. HasLong m → ⊥) (λ m. AllByRecursion (Named new) (member_needs m)) (IsWritableMember new) c.fields (writable_field c.pool new grown) formed.fields
      (none_long c.fields (λ some. few (inr (inr (inr (inr (inl some))))))) (class_fields (Named new) c named)

  pub methods_writable : AllByRecursion (IsWritableMember new) c.methods
  methods_writable =
      all_from (IsFormedMethod c.pool) (λ m. HasLong m → ⊥) (λ m. AllByRecursion (Named new) (member_needs m)) (IsWritableMember new) c.methods (writable_method c.pool new grown) formed.methods
      (none_long c.methods (λ some. few (inr (inr (inr (inr (inr some))))))) (class_methods (Named new) c named)

  pub fields_bodiless : AllByRecursion (λ (m : Member). m.body ≡ None) c.fields
  fields_bodiless = AllByRecursion-map (IsFormedField c.pool) (λ m. m.body ≡ None) c.fields (λ m h. h.no_body) formed.fields
