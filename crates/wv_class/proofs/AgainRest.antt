-- What was written of a class behind its pool, as it is read again.
use Rattle.std.proofs.Common.{◌≡◌, ℕ, ◌^◌, ◌<◌, List, [], ◌∷◌, ◌++◌, length, None, refl, sym, ap, subst, ◌∙◌, arith}
use Rattle.std.specs.Prelude.{IfOk, Result, Ok, Err}
use Rattle.std.specs.List.{AllByRecursion, flat_map}
use Rattle.wv_base.specs.declared.class_file.ClassFile.{ClassFile}
use Rattle.wv_base.specs.declared.class_file.ClassVersion.{ClassVersion}
use Rattle.wv_base.specs.declared.class_file.Member.{Member}
use Rattle.wv_base.specs.declared.class_file.PoolEntry.{PoolEntry}
use Rattle.wv_base.specs.declared.memory.Memory.{Memory}
use Rattle.wv_pool.specs.Adding.{Keeps}
use Rattle.wv_pool.specs.Entries.{number_bytes}
use Rattle.wv_pool.specs.References.{IsPool}
use Rattle.wv_code.proofs.Lists.{AllByRecursion-map}
use Rattle.wv_code.proofs.OffsetFrames.{all_get}
use Rattle.wv_class.specs.declared.raw_class.Place.TheVariants as places
use Rattle.wv_class.specs.declared.raw_class.RawAttribute.{RawAttribute}
use Rattle.wv_class.specs.declared.raw_class.RawClass.{RawClass}
use Rattle.wv_class.specs.declared.raw_class.RawRest.{RawRest}
use Rattle.wv_class.specs.Appending.{WritesEach, WritesClassName, WritesMember, WritesParts}
use Rattle.wv_class.specs.Breaks.{InNumbers, InList, NamesPlainClass, PartsBreak, RestBreaks, attribute_len}
use Rattle.wv_class.specs.Breaks as breaks
use Rattle.wv_class.specs.Formed.{IsFormedClassName, IsFormedField, IsFormedMethod, IsFormedClass}
use Rattle.wv_class.specs.Layout.{AreNumbers, numbers_bytes, SpellsRest}
use Rattle.wv_class.specs.Limits.{class_attributes}
use Rattle.wv_class.specs.Meaning.{AreClasses, AreMembersOf, IsClassOf}
use Rattle.wv_class.specs.Same.{IsSameClass}
use Rattle.wv_class.specs.Writing.{WritesRest}
use Rattle.wv_class.specs.Written.{AreOthers, IsAgainMember}
use Rattle.wv_code.specs.Least.{Behind}
use Rattle.wv_class.proofs.AgainMembers.{AreAgain, attributes_spelled, member_again, members_again, table_again, fields_same}
use Rattle.wv_class.proofs.AgainTables.{fields_meet, methods_meet}
use Rattle.wv_class.proofs.WrittenAttributes.{field_attributes, method_attributes, class_others}

-- ---- classes

-- classes with their numbers
record AreNumbered (pool : List PoolEntry) (names : List (List ℕ)) (bytes : List ℕ) : Type 0 where
  pub numbers : List ℕ
  pub count : length numbers ≡ length names
  pub small : AllByRecursion (λ n. n < 2 ^ 16) numbers
  pub spelled : bytes ≡ flat_map number_bytes numbers
  pub classes : AreClasses pool numbers names
  pub plain : AllByRecursion (NamesPlainClass pool) numbers

names_again : (pool : List PoolEntry) (names : List (List ℕ)) (bytes : List ℕ) → AllByRecursion IsFormedClassName names → WritesEach (WritesClassName pool) names bytes → AreNumbered pool names bytes
names_again pool [] bytes formed is = record { numbers = []; count = refl; small = tt; spelled = is; classes = tt; plain = tt }
names_again pool (name ∷ names) bytes formed (front, back, (n, small, named, spelled), others, parts) =
    let rest = names_again pool names back formed.1 others in
    record {
      numbers = n ∷ rest.numbers;
      count = omega (arith, rest.count);
      small = (small, rest.small);
      spelled = parts ∙ ap (λ (z : List ℕ). z ++ back) spelled ∙ ap (λ (z : List ℕ). number_bytes n ++ z) rest.spelled;
      classes = (named, rest.classes);
      plain = ((name, named, formed.0.0), rest.plain);
    }

numbers_meet : (pool : List PoolEntry) (base : ℕ) (numbers : List ℕ) → AllByRecursion (NamesPlainClass pool) numbers → (at : ℕ) → InNumbers base numbers (NamesPlainClass pool) at → ⊥
numbers_meet pool base numbers plain at (k, number, is, (place, b, e)) = b.1 (all_get (NamesPlainClass pool) numbers k number plain is)

parts_meet : (pool : List PoolEntry) (base : ℕ) (all : List RawAttribute) → AllByRecursion (λ (a : RawAttribute). (at : ℕ) → PartsBreak pool a.content at → ⊥) all
    → (at : ℕ) → InList attribute_len base all (λ k a. Behind 6 (PartsBreak pool a.content)) at → ⊥
parts_meet pool base all sound at (k, a, is, (place, (inner, b, f), e)) = all_get (λ (a : RawAttribute). (at : ℕ) → PartsBreak pool a.content at → ⊥) all k a sound is inner b

-- a class file with these parts
class_is : (c : ClassFile) (rest : RawRest) (written : ClassFile) (raw : RawClass) → raw.version ≡ c.version → raw.pool ≡ written.pool → raw.rest ≡ rest
    → IsClassOf (record { version = c.version; pool = written.pool; rest = rest }) written → IsClassOf raw written
class_is c rest written raw version pool is h =
    subst (λ (v : ClassVersion). IsClassOf (record { version = v; pool = raw.pool; rest = raw.rest }) written) (sym version)
    (subst (λ (p : List PoolEntry). IsClassOf (record { version = c.version; pool = p; rest = raw.rest }) written) (sym pool)
    (subst (λ (r : RawRest). IsClassOf (record { version = c.version; pool = written.pool; rest = r }) written) (sym is) h))

module _ (pool : List PoolEntry) (c : ClassFile) (bytes : List ℕ) (formed : IsFormedClass c) (keeps : Keeps c.pool pool) (sound : IsPool pool) (w : WritesParts pool c bytes) where
  abbrev class : ℕ
  class = w.name_is.0

  field_again : (m : Member) (bytes : List ℕ) → IsFormedField c.pool m → WritesMember pool m bytes → IsAgainMember pool places.Field class m bytes
  field_again m bytes f h =
      member_again pool places.Field class m bytes h
      (field_attributes pool c.pool class c.name m h.value h.code h.exceptions h.others sound keeps w.name_is.2 f h.value_is h.code_is h.exceptions_are h.others_are)

  method_again : (m : Member) (bytes : List ℕ) → IsFormedMethod c.pool m → WritesMember pool m bytes → IsAgainMember pool places.Method class m bytes
  method_again m bytes f h =
      member_again pool places.Method class m bytes h
      (method_attributes pool c.pool class c.name m h.value h.code h.exceptions h.others sound keeps w.name_is.2 f h.value_is h.code_is h.exceptions_are h.others_are)

  interfaces : AreNumbered pool c.interfaces w.interfaces_are.numbers
  interfaces = names_again pool c.interfaces w.interfaces_are.numbers formed.interfaces w.interfaces_are.each

  fields : AreAgain pool places.Field class (IsFormedField c.pool) c.fields w.fields_are.items
  fields = members_again pool places.Field class (IsFormedField c.pool) field_again c.fields w.fields_are.items formed.fields w.fields_are.each

  methods : AreAgain pool places.Method class (IsFormedMethod c.pool) c.methods w.methods_are.items
  methods = members_again pool places.Method class (IsFormedMethod c.pool) method_again c.methods w.methods_are.items formed.methods w.methods_are.each

  others : AreOthers pool places.Class c.notes c.kept w.others
  others = class_others pool c.pool c.notes c.kept w.others keeps formed.notes formed.kept w.others_are

  abbrev rest : RawRest
  rest = record {
    flags = c.flags.0;
    class = class;
    superclass = w.superclass_is.0;
    interfaces = interfaces.numbers;
    fields = fields.raws;
    methods = methods.raws;
    attributes = others.all;
  }

  few_numbers : AreNumbers interfaces.numbers
  few_numbers = (subst (λ (n : ℕ). n < 2 ^ 16) (sym interfaces.count) w.interfaces_are.few, interfaces.small)

  interfaces_spelled : w.interfaces ≡ numbers_bytes interfaces.numbers
  interfaces_spelled = w.interfaces_are.spelled ∙ ap (λ (n : ℕ). number_bytes n ++ w.interfaces_are.numbers) (sym interfaces.count) ∙ ap (λ (z : List ℕ). number_bytes (length interfaces.numbers) ++ z) interfaces.spelled

  -- the parts behind the interfaces
  abbrev behind : List ℕ
  behind = w.fields ++ (w.methods ++ (number_bytes (class_attributes c) ++ w.others))

  spelled : (near : ℕ) → SpellsRest pool near rest bytes
  spelled near = record {
    flags = w.flags;
    class = w.name_is.1;
    superclass = w.superclass_is.1;
    interfaces = few_numbers;
    fields_are = w.fields;
    fields = table_again pool places.Field class (IsFormedField c.pool) c.fields w.fields w.fields_are fields _;
    methods_are = w.methods;
    methods = table_again pool places.Method class (IsFormedMethod c.pool) c.methods w.methods w.methods_are methods _;
    table = number_bytes (class_attributes c) ++ w.others;
    attributes = attributes_spelled pool places.Class others.all (class_attributes c) w.others w.few others.count others.spelled _;
    spelled = w.spelled
        ∙ ap (λ (z : List ℕ). number_bytes c.flags.0 ++ (z ++ (w.superclass ++ (w.interfaces ++ behind)))) w.name_is.3
        ∙ ap (λ (z : List ℕ). number_bytes c.flags.0 ++ (number_bytes class ++ (z ++ (w.interfaces ++ behind)))) w.superclass_is.3
        ∙ ap (λ (z : List ℕ). number_bytes c.flags.0 ++ (number_bytes class ++ (number_bytes w.superclass_is.0 ++ (z ++ behind)))) interfaces_spelled;
  }

  meets : (at : ℕ) → RestBreaks pool rest at → ⊥
  meets _ (breaks.class h) = h (c.name, w.name_is.2, formed.name.0)
  meets _ (breaks.superclass h) = h (c.superclass, w.superclass_is.2, formed.superclass.0)
  meets _ (breaks.interface {at = at} h) = numbers_meet pool 8 interfaces.numbers interfaces.plain at h
  meets _ (breaks.field {at = at} h) = fields_meet pool c.pool class _ fields.raws c.fields fields.read formed.distinct_fields at h
  meets _ (breaks.method {at = at} h) = methods_meet pool c.pool class _ methods.raws c.methods methods.read formed.distinct_methods at h
  meets _ (breaks.attribute {at = at} h) = parts_meet pool _ others.all others.sound at h

  abbrev written : ClassFile
  written = record c { pool = pool; methods = methods.others }

  same : IsSameClass c written
  same = record { pool = keeps; methods = methods.same; others = refl }

  fields_are : AreMembersOf pool class fields.raws c.fields
  fields_are =
      subst (AreMembersOf pool class fields.raws)
      (fields_same pool c.fields fields.others (AllByRecursion-map (IsFormedField c.pool) (λ (m : Member). m.body ≡ None) c.fields (λ m f. f.no_body) formed.fields) fields.same) fields.means

  means : IsClassOf (record { version = c.version; pool = pool; rest = rest }) written
  means = record {
    version = refl;
    flags = refl;
    name = w.name_is.2;
    superclass = w.superclass_is.2;
    interfaces = interfaces.classes;
    fields = fields_are;
    methods = methods.means;
    notes = others.notes_are;
    pool = refl;
    kept = others.kept_are;
  }

  pub parts_again : WritesRest pool c bytes
  parts_again = record {
    rest = rest;
    spelled = spelled (length bytes);
    sound = meets;
    written = written;
    own = refl;
    same = same;
    means = λ raw version own is. class_is c rest written raw version own is means;
  }

pub result_again : (pool : List PoolEntry) (c : ClassFile) (result : Result (List ℕ) Memory) → IsFormedClass c → Keeps c.pool pool → IsPool pool → IfOk result (WritesParts pool c) → IfOk result (WritesRest pool c)
result_again pool c (Ok bytes) formed keeps sound w = parts_again pool c bytes formed keeps sound w
result_again pool c (Err e) formed keeps sound w = tt
