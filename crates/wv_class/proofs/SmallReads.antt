-- The class that few bytes spell is small.
use Rattle.std.proofs.Common.{◌≡◌, ℕ, ◌+◌, ◌*◌, ◌≤◌, Bool, true, false, List, [], ◌∷◌, ◌++◌, length, map, Option, Some, None, refl, ap, ◌∙◌, arith}
use Rattle.std.specs.Prelude.{codes, bytes_eq, if◌then◌else◌}
use Rattle.std.specs.List.{flat_map, sum_by, AllByRecursion}
use Rattle.std.proofs.lemmas.List.{length-append}
use Rattle.std.proofs.lemmas.List.Sums.{sum_by-cons}
use Rattle.wv_base.specs.declared.class_file.PoolEntry.{PoolEntry}
use Rattle.wv_base.specs.declared.class_file.PoolEntry.TheVariants as entries
use Rattle.wv_base.specs.declared.class_file.Body.{Body}
use Rattle.wv_base.specs.declared.class_file.Member.{Member}
use Rattle.wv_base.specs.declared.class_file.ClassFile.{ClassFile}
use Rattle.wv_base.specs.declared.constant.Const.{Const}
use Rattle.wv_base.specs.declared.constant.Const.TheVariants as constants
use Rattle.wv_base.specs.declared.note.Note.{Note}
use Rattle.wv_pool.specs.References.{text_of}
use Rattle.wv_pool.specs.Reading.{is_wide}
use Rattle.wv_pool.specs.Entries.{entry_bytes, pool_bytes, IsEntry, AreSlots}
use Rattle.wv_pool.specs.Adding.{class_needs as name_needs, needs}
use Rattle.wv_code.specs.declared.raw_body.RawBody.{RawBody}
use Rattle.wv_code.specs.Breaks.{attribute_place}
use Rattle.wv_code.specs.Content.{IsContent}
use Rattle.wv_code.specs.Body.{kept_name}
use Rattle.wv_code.proofs.OffsetFrames.{all_append}
use Rattle.wv_class.specs.declared.raw_class.Place.TheVariants as places
use Rattle.wv_class.specs.declared.raw_class.Kind.TheVariants as kinds
use Rattle.wv_class.specs.declared.raw_class.Content.{Content}
use Rattle.wv_class.specs.declared.raw_class.Content.TheVariants as contents
use Rattle.wv_class.specs.declared.raw_class.RawAttribute.{RawAttribute}
use Rattle.wv_class.specs.declared.raw_class.RawMember.{RawMember}
use Rattle.wv_class.specs.Kinds.{text_kind, kind_at, kind_of}
use Rattle.wv_class.specs.Layout.{SpellsAttribute, SpellsMember}
use Rattle.wv_class.specs.Breaks.{content_len, attribute_len, member_len}
use Rattle.wv_class.specs.Checking.{IsSpelledContent, IsSpelledAttribute, IsSpelledMember}
use Rattle.wv_class.specs.Meaning.{content_codes, content_values, content_exceptions, content_kept, kept_in, codes_in, values_in, exceptions_in, IsNotesOf, AreNotesOf, IsBodyIn, IsValueIn, AreClasses, IsMemberOf, AreMembersOf, Spells}
use Rattle.wv_class.specs.Meaning as meaning
use Rattle.wv_class.specs.Needs.{parts_of, value_constants, code_constants, exceptions_constants, annotations_need, member_constants, member_needs, members_need, head_constants, class_needs}
use Rattle.wv_class.specs.Limits.{one_if, one_if_any, member_attributes}
use Rattle.wv_class.specs.Sizes.{HasNoFrames, HasFewInsns, IsSmallMethod, IsSmall}
use Rattle.wv_class.proofs.Lengths.{code_spelled, each_spelled, members_each, attribute_content, rest_spelled}
use Rattle.wv_class.proofs.Lengths.{member_attributes as spelled_attributes}
use Rattle.wv_class.proofs.SmallCounts.{count, count_is, count-append, needs_few, parts_count, parts-append}
use Rattle.wv_class.proofs.SmallCode.{body_room}
use Rattle.wv_class.proofs.SmallNotes.{weights, weights-append, list_room, listed_room, notes_cost, notes_tables}

-- ---- The pool

-- the number that has no bytes
abbrev extra : Bool → ℕ
extra true = 1
extra false = 0

entry_room : (e : PoolEntry) → IsEntry e → 1 + extra (is_wide e) ≤ length (entry_bytes e)
entry_room (entries.Utf8 name) h = omega arith
entry_room (entries.Integer value) h = omega arith
entry_room (entries.Float bits) h = omega arith
entry_room (entries.Long value) h = omega arith
entry_room (entries.Double bits) h = omega arith
entry_room (entries.Class name) h = omega arith
entry_room (entries.String text) h = omega arith
entry_room (entries.Field class pair) h = omega arith
entry_room (entries.Method class pair) h = omega arith
entry_room (entries.InterfaceMethod class pair) h = omega arith
entry_room (entries.NameAndType name descriptor) h = omega arith
entry_room (entries.MethodHandle kind reference) h = omega arith
entry_room (entries.MethodType descriptor) h = omega arith
entry_room (entries.InvokeDynamic bootstrap pair) h = omega arith
entry_room entries.Unusable h = absurd h

slots_room : (wide : Bool) (pool : List PoolEntry) → AreSlots wide pool → length pool ≤ extra wide + length (flat_map entry_bytes pool)
slots_room wide [] h = omega arith
slots_room true (e ∷ pool) h = omega (arith, length-append (entry_bytes e) (flat_map entry_bytes pool), slots_room false pool h.1)
slots_room false (e ∷ pool) h = omega (arith, length-append (entry_bytes e) (flat_map entry_bytes pool), entry_room e h.0, slots_room (is_wide e) pool h.1)

-- ---- Attributes

abbrev codes_len : List RawBody → ℕ
codes_len [] = 0
codes_len (raw ∷ raws) = 6 + attribute_place raw (length raw.attributes) + codes_len raws

codes-append : (xs ys : List RawBody) → codes_len (xs ++ ys) ≡ codes_len xs + codes_len ys
codes-append [] ys = omega arith
codes-append (raw ∷ xs) ys = omega (arith, codes-append xs ys)

abbrev notes_len : Content → ℕ
notes_len (contents.Annotations visible parts) = content_len (contents.Annotations visible parts)
notes_len (contents.ParameterAnnotations visible parts) = content_len (contents.Annotations visible parts)
notes_len _ = 0

abbrev notes_lens : List RawAttribute → ℕ
notes_lens [] = 0
notes_lens (a ∷ all) = notes_len a.content + notes_lens all

-- each part has bytes of its own
content_parts : (name : ℕ) (c : Content) → codes_len (content_codes c) + 8 * length (content_values c) + 2 * length (content_exceptions c) + notes_len c + length (content_kept name c) ≤ 6 + content_len c
content_parts name (contents.Code raw) = omega arith
content_parts name (contents.ConstantValue number) = omega arith
content_parts name (contents.Exceptions numbers) = omega arith
content_parts name (contents.Annotations visible parts) = omega arith
content_parts name (contents.ParameterAnnotations visible parts) = omega arith
content_parts name (contents.Other bytes) = omega arith

attributes_parts : (pool : List PoolEntry) (all : List RawAttribute)
    → codes_len (codes_in all) + 8 * length (values_in all) + 2 * length (exceptions_in all) + notes_lens all + length (flat_map (kept_in pool) all) ≤ sum_by attribute_len all
attributes_parts pool [] = omega arith
attributes_parts pool (a ∷ all) =
    let codes = codes-append (content_codes a.content) (codes_in all) in
    let values = length-append (content_values a.content) (values_in all) in
    let exceptions = length-append (content_exceptions a.content) (exceptions_in all) in
    let kept = length-append (kept_in pool a) (flat_map (kept_in pool) all) in
    omega (arith, sum_by-cons attribute_len a all, codes, values, exceptions, kept, content_parts (kept_name pool a.name) a.content, attributes_parts pool all)

content_notes : (pool : List PoolEntry) (c : Content) (notes : List Note) → IsNotesOf pool c notes → weights notes ≤ 4 * notes_len c
content_notes pool (contents.Annotations visible parts) notes h = list_room pool visible notes parts h
content_notes pool (contents.ParameterAnnotations visible parts) notes h = listed_room pool h
content_notes pool (contents.Code raw) notes h = omega (arith, ap weights h)
content_notes pool (contents.ConstantValue number) notes h = omega (arith, ap weights h)
content_notes pool (contents.Exceptions numbers) notes h = omega (arith, ap weights h)
content_notes pool (contents.Other bytes) notes h = omega (arith, ap weights h)

all_notes : (pool : List PoolEntry) (all : List RawAttribute) (notes : List Note) → AreNotesOf pool all notes → weights notes ≤ 4 * notes_lens all
all_notes pool [] _ meaning.none = omega arith
all_notes pool (a ∷ all) _ (meaning.next notes others h rest) = omega (arith, weights-append notes others, content_notes pool a.content notes h, all_notes pool all others rest)

-- ---- Fields and methods

abbrev AreContents : List PoolEntry → List RawBody → Type 0
AreContents pool raws = AllByRecursion (λ (raw : RawBody). (bytes : List ℕ) × IsContent pool raw bytes) raws

content_spelled : (pool : List PoolEntry) (c : Content) → IsSpelledContent pool c → AreContents pool (content_codes c)
content_spelled pool (contents.Code raw) h = ((h.1, h.3), tt)
content_spelled pool (contents.ConstantValue number) h = tt
content_spelled pool (contents.Exceptions numbers) h = tt
content_spelled pool (contents.Annotations visible parts) h = tt
content_spelled pool (contents.ParameterAnnotations visible parts) h = tt
content_spelled pool (contents.Other bytes) h = tt

codes_spelled : (pool : List PoolEntry) (all : List RawAttribute) → AllByRecursion (IsSpelledAttribute pool) all → AreContents pool (codes_in all)
codes_spelled pool [] h = tt
codes_spelled pool (a ∷ all) h =
    all_append (λ (raw : RawBody). (bytes : List ℕ) × IsContent pool raw bytes) (content_codes a.content) (codes_in all) (content_spelled pool a.content (attribute_content pool a h.0)) (codes_spelled pool all h.1)

body_in : (pool : List PoolEntry) (class : ℕ) (m : RawMember) (codes : List RawBody) (body : Option Body) → AreContents pool codes → IsBodyIn pool class m codes body → HasNoFrames body
    → (one_if body ≤ codes_len codes) × HasFewInsns (codes_len codes) body × (parts_count (code_constants body) ≤ 4 * codes_len codes)
body_in pool class m [] None are h none = (omega arith, tt, omega arith)
body_in pool class m [] (Some body) are h none = absurd h
body_in pool class m (raw ∷ []) None are h none = absurd h
body_in pool class m (raw ∷ []) (Some body) are h none =
    let room = body_room pool h.0 raw are.0.0 body are.0.1 h.2 none in
    let long = code_spelled pool raw are.0.0 are.0.1 in
    (omega arith, omega (arith, room.0, long), omega (arith, room.1, long))
body_in pool class m (raw ∷ other ∷ codes) None are h none = absurd h
body_in pool class m (raw ∷ other ∷ codes) (Some body) are h none = absurd h

value_in : (pool : List PoolEntry) (numbers : List ℕ) (value : Option Const) → IsValueIn pool numbers value → (one_if value ≤ length numbers) × (parts_count (value_constants value) ≤ 8 * length numbers)
value_in pool [] None h = (omega arith, omega arith)
value_in pool [] (Some value) h = absurd h
value_in pool (number ∷ []) None h = absurd h
value_in pool (number ∷ []) (Some value) h = (omega arith, omega (arith, count-append (needs value) (constants.Utf8 (codes "ConstantValue") ∷ []), needs_few value))
value_in pool (number ∷ other ∷ numbers) None h = absurd h
value_in pool (number ∷ other ∷ numbers) (Some value) h = absurd h

classes_many : (pool : List PoolEntry) (numbers : List ℕ) (names : List (List ℕ)) → AreClasses pool numbers names → length names ≡ length numbers
classes_many pool [] [] h = refl
classes_many pool [] (name ∷ names) h = absurd h
classes_many pool (n ∷ numbers) [] h = absurd h
classes_many pool (n ∷ numbers) (name ∷ names) h = omega (arith, classes_many pool numbers names h.1)

classes_count : (names : List (List ℕ)) → parts_count (map (λ n. constants.Class n) names) ≡ 2 * length names
classes_count [] = refl
classes_count (name ∷ names) = omega (arith, count-append (parts_of (map (λ n. constants.Class n) names)) (name_needs name), classes_count names)

throws_few : (names : List (List ℕ)) → (one_if_any names ≤ length names) × (parts_count (exceptions_constants names) ≤ 3 * length names)
throws_few [] = (omega arith, omega arith)
throws_few (name ∷ names) =
    let texts = count-append (parts_of (map (λ n. constants.Class n) (name ∷ names))) (constants.Utf8 (codes "Exceptions") ∷ []) in
    (omega arith, omega (arith, texts, classes_count (name ∷ names)))

more_insns : (a b : ℕ) (body : Option Body) → a ≤ b → HasFewInsns a body → HasFewInsns b body
more_insns a b None le h = tt
more_insns a b (Some body) le h = omega (arith, le, h)

record IsSmallMember (n : ℕ) (m : Member) : Type 0 where
  pub attributes : member_attributes m ≤ n
  pub insns : HasFewInsns n m.body
  pub constants : count (member_needs m) ≤ 4 * n

member_small : (pool : List PoolEntry) (class : ℕ) (raw : RawMember) (m : Member) → IsSpelledMember pool raw → IsMemberOf pool class raw m → HasNoFrames m.body → IsSmallMember (member_len raw) m
member_small pool class raw m spelled is none =
    let parts = attributes_parts pool raw.attributes in
    let body = body_in pool class raw (codes_in raw.attributes) m.body (codes_spelled pool raw.attributes (spelled_attributes pool raw spelled)) is.body none in
    let value = value_in pool (values_in raw.attributes) m.value is.value in
    let many = classes_many pool (exceptions_in raw.attributes) m.throws is.throws in
    let throws = throws_few m.throws in
    let notes = all_notes pool raw.attributes m.notes is.notes in
    let tables = notes_tables m.notes in
    let others = value_constants m.value ++ (code_constants m.body ++ exceptions_constants m.throws) in
    let needed = count-append (annotations_need m.notes) (parts_of (member_constants m)) in
    let named = count-append (parts_of (constants.Utf8 m.descriptor ∷ others)) (constants.Utf8 m.name ∷ []) in
    let described = count-append (parts_of others) (constants.Utf8 m.descriptor ∷ []) in
    let valued = parts-append (value_constants m.value) (code_constants m.body ++ exceptions_constants m.throws) in
    let coded = parts-append (code_constants m.body) (exceptions_constants m.throws) in
    record {
      attributes = omega (arith, parts, body.0, value.0, many, throws.0, notes, tables, ap length is.kept);
      insns = more_insns (codes_len (codes_in raw.attributes)) (member_len raw) m.body (omega (arith, parts)) body.1;
      constants = omega (arith, parts, body.2, value.1, many, throws.1, notes, notes_cost m.notes, needed, named, described, valued, coded);
    }

members_few : (pool : List PoolEntry) (class : ℕ) (raws : List RawMember) (ms : List Member) → AllByRecursion (IsSpelledMember pool) raws → AreMembersOf pool class raws ms → AllByRecursion (λ (m : Member). HasNoFrames m.body) ms
    → (length ms ≤ sum_by member_len raws) × (count (members_need ms) ≤ 4 * sum_by member_len raws)
members_few pool class [] [] spelled are none = (omega arith, omega arith)
members_few pool class [] (m ∷ ms) spelled are none = absurd are
members_few pool class (raw ∷ raws) [] spelled are none = absurd are
members_few pool class (raw ∷ raws) (m ∷ ms) spelled are none =
    let first = member_small pool class raw m spelled.0 are.0 none.0 in
    let others = members_few pool class raws ms spelled.1 are.1 none.1 in
    let sum = sum_by-cons member_len raw raws in
    (omega (arith, sum, others.0), omega (arith, sum, count-append (members_need ms) (member_needs m), first.constants, others.1))

methods_small : (n : ℕ) (pool : List PoolEntry) (class : ℕ) (raws : List RawMember) (ms : List Member) → sum_by member_len raws ≤ n → AllByRecursion (IsSpelledMember pool) raws → AreMembersOf pool class raws ms
    → AllByRecursion (λ (m : Member). HasNoFrames m.body) ms → AllByRecursion (IsSmallMethod n) ms
methods_small n pool class [] [] le spelled are none = tt
methods_small n pool class [] (m ∷ ms) le spelled are none = absurd are
methods_small n pool class (raw ∷ raws) [] le spelled are none = absurd are
methods_small n pool class (raw ∷ raws) (m ∷ ms) le spelled are none =
    let first = member_small pool class raw m spelled.0 are.0 none.0 in
    let sum = sum_by-cons member_len raw raws in (
      record {
        attributes = omega (arith, sum, le, first.attributes);
        insns = more_insns (member_len raw) n m.body (omega (arith, sum, le)) first.insns;
      },
      methods_small n pool class raws ms (omega (arith, sum, le)) spelled.1 are.1 none.1,
    )

-- ---- A field has no code

text_kinds : (a b c : Bool) → (if a then kinds.ConstantValue else if b then kinds.Annotations true else if c then kinds.Annotations false else kinds.Other) ≡ kinds.Code → ⊥
text_kinds true b c e = cc
text_kinds false true c e = cc
text_kinds false false true e = cc
text_kinds false false false e = cc

text_no_code : (o : Option (List ℕ)) → text_kind places.Field o ≡ kinds.Code → ⊥
text_no_code None e = cc
text_no_code (Some name) e = text_kinds (bytes_eq name (codes "ConstantValue")) (bytes_eq name (codes "RuntimeVisibleAnnotations")) (bytes_eq name (codes "RuntimeInvisibleAnnotations")) e

field_kind : (pool : List PoolEntry) (number : ℕ) → kind_at pool places.Field number ≡ kinds.Code → ⊥
unfolding kind_at
field_kind pool number e = text_no_code (text_of pool number) e

no_code : (c : Content) → (kind_of c ≡ kinds.Code → ⊥) → content_codes c ≡ []
no_code (contents.Code raw) h = absurd (h refl)
no_code (contents.ConstantValue number) h = refl
no_code (contents.Exceptions numbers) h = refl
no_code (contents.Annotations visible parts) h = refl
no_code (contents.ParameterAnnotations visible parts) h = refl
no_code (contents.Other bytes) h = refl

no_codes : (pool : List PoolEntry) (all : List RawAttribute) → AllByRecursion (λ a. (near : ℕ) × (bytes : List ℕ) × SpellsAttribute pool places.Field near a bytes) all → codes_in all ≡ []
no_codes pool [] h = refl
no_codes pool (a ∷ all) h = ap (λ t. t ++ codes_in all) (no_code a.content (λ e. field_kind pool a.name (h.0.2.known ∙ e))) ∙ no_codes pool all h.1

no_body : (pool : List PoolEntry) (class : ℕ) (m : RawMember) (codes : List RawBody) (body : Option Body) → codes ≡ [] → IsBodyIn pool class m codes body → HasNoFrames body
no_body pool class m [] None e h = tt
no_body pool class m [] (Some body) e h = absurd h
no_body pool class m (raw ∷ codes) body e h = absurd cc

fields_frameless : (pool : List PoolEntry) (class : ℕ) (raws : List RawMember) (ms : List Member) → AllByRecursion (λ m. (near : ℕ) × (bytes : List ℕ) × SpellsMember pool places.Field near m bytes) raws → AreMembersOf pool class raws ms
    → AllByRecursion (λ (m : Member). HasNoFrames m.body) ms
fields_frameless pool class [] [] spelled are = tt
fields_frameless pool class [] (m ∷ ms) spelled are = absurd are
fields_frameless pool class (raw ∷ raws) [] spelled are = absurd are
fields_frameless pool class (raw ∷ raws) (m ∷ ms) spelled are =
    let table = spelled.0.2.attributes in
    let none : codes_in raw.attributes ≡ [] = no_codes pool raw.attributes (each_spelled (SpellsAttribute pool places.Field) _ raw.attributes table.items table.all) in
    (no_body pool class raw (codes_in raw.attributes) m.body none are.0.body, fields_frameless pool class raws ms spelled.1 are.1)

-- ---- Classes

pub read_small : (bytes : List ℕ) (c : ClassFile) → Spells bytes c → AllByRecursion (λ (m : Member). HasNoFrames m.body) c.methods → IsSmall (length bytes) c
read_small bytes c s none =
    let raw = s.raw in
    let pool = raw.pool in
    let class = raw.rest.class in
    let rest_is = s.layout.rest_is in
    let is = s.means in
    let whole = ap length s.layout.spelled in
    let behind = length-append (pool_bytes pool) s.layout.rest in
    let rest = rest_spelled pool _ raw.rest s.layout.rest rest_is in
    let slots = slots_room false pool s.layout.pool.1 in
    let methods_spelled = members_each pool places.Method _ raw.rest.methods rest_is.methods_are rest_is.methods in
    let fields_spelled = members_each pool places.Field _ raw.rest.fields rest_is.fields_are rest_is.fields in
    let frameless = fields_frameless pool class raw.rest.fields c.fields (each_spelled (SpellsMember pool places.Field) _ raw.rest.fields rest_is.fields.items rest_is.fields.all) is.fields in
    let methods = members_few pool class raw.rest.methods c.methods methods_spelled is.methods none in
    let fields = members_few pool class raw.rest.fields c.fields fields_spelled is.fields frameless in
    let parts = attributes_parts pool raw.rest.attributes in
    let notes = all_notes pool raw.rest.attributes c.notes is.notes in
    let interfaces = classes_many pool raw.rest.interfaces c.interfaces is.interfaces in
    let names = map (λ n. constants.Class n) c.interfaces in
    let first = count-append (annotations_need c.notes) (members_need c.methods ++ (members_need c.fields ++ parts_of (head_constants c))) in
    let second = count-append (members_need c.methods) (members_need c.fields ++ parts_of (head_constants c)) in
    let third = count-append (members_need c.fields) (parts_of (head_constants c)) in
    let named = count-append (parts_of (constants.Class c.superclass ∷ names)) (name_needs c.name) in
    let super = count-append (parts_of names) (name_needs c.superclass) in
    let long : 24 + length (flat_map entry_bytes pool) + 2 * length raw.rest.interfaces + sum_by member_len raw.rest.fields + sum_by member_len raw.rest.methods + sum_by attribute_len raw.rest.attributes ≤ length bytes = omega (arith, whole, behind, rest) in
    record {
      pool = omega (arith, ap length is.pool, slots, long);
      methods = omega (arith, methods.0, long);
      each = methods_small (length bytes) pool class raw.rest.methods c.methods (omega (arith, long)) methods_spelled is.methods none;
      attributes = omega (arith, parts, notes, notes_tables c.notes, ap length is.kept, long);
      constants = omega (arith, count_is (class_needs c), first, second, third, named, super, classes_count c.interfaces, interfaces, methods.1, fields.1, notes, notes_cost c.notes, parts, long);
    }
