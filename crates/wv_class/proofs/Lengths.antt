-- How many bytes the parts of a class file take is how many spell them.
use Rattle.std.proofs.Common.{◌≡◌, ℕ, ◌+◌, ◌-◌, ◌*◌, ◌^◌, ◌<◌, ◌≤◌, List, [], ◌∷◌, ◌++◌, length, take, refl, sym, ap, ◌∙◌, arith}
use Rattle.std.specs.List.{flat_map, sum_by, AllByRecursion}
use Rattle.std.proofs.lemmas.List.{length-append, take_all}
use Rattle.std.proofs.lemmas.List.Sums.{sum_by-cons}
use Rattle.wv_base.specs.declared.class_file.PoolEntry.{PoolEntry}
use Rattle.wv_pool.specs.Entries.{number_bytes}
use Rattle.wv_attr.specs.declared.mark.Mark.{Mark}
use Rattle.wv_attr.specs.Marks.{table_bytes}
use Rattle.wv_code.specs.declared.raw_body.RawRange.{RawRange}
use Rattle.wv_code.specs.declared.raw_body.RawBody.{RawBody}
use Rattle.wv_code.specs.declared.raw_body.RawAttribute.{RawAttribute as InnerAttribute}
use Rattle.wv_code.specs.Content.{range_bytes, attribute_bytes, length_bytes, content_bytes, IsContent}
use Rattle.wv_code.specs.Breaks.{attribute_place}
use Rattle.wv_code.proofs.Lists.{AllByRecursion-map}
use Rattle.wv_class.specs.declared.raw_class.Place.{Place}
use Rattle.wv_class.specs.declared.raw_class.Content.{Content}
use Rattle.wv_class.specs.declared.raw_class.Content.TheVariants as contents
use Rattle.wv_class.specs.declared.raw_class.RawAttribute.{RawAttribute}
use Rattle.wv_class.specs.declared.raw_class.RawMember.{RawMember}
use Rattle.wv_class.specs.declared.raw_class.RawRest.{RawRest}
use Rattle.wv_class.specs.Layout.{numbers_bytes, SpellsParts, SpellsLists, SpellsContent, SpellsAttribute, SpellsAll, SpellsTable, SpellsMember, SpellsRest, none, next}
use Rattle.wv_class.specs.Breaks.{content_len, attribute_len, member_len}
use Rattle.wv_class.specs.Checking.{IsSpelledContent, IsSpelledAttribute, IsSpelledMember}

-- ---- contents

numbers_len : (numbers : List ℕ) → length (flat_map number_bytes numbers) ≡ 2 * length numbers
numbers_len [] = refl
numbers_len (n ∷ numbers) = length-append (number_bytes n) (flat_map number_bytes numbers) ∙ omega (arith, numbers_len numbers)

pub ranges_len : (ranges : List RawRange) → length (flat_map range_bytes ranges) ≡ 8 * length ranges
ranges_len [] = refl
ranges_len (r ∷ ranges) = length-append (range_bytes r) (flat_map range_bytes ranges) ∙ omega (arith, ranges_len ranges)

pub code_spelled : (pool : List PoolEntry) (raw : RawBody) (bytes : List ℕ) → IsContent pool raw bytes → length bytes ≡ attribute_place raw (length raw.attributes)
code_spelled pool raw bytes h =
    let all : take (length raw.attributes) raw.attributes ≡ raw.attributes = take_all (length raw.attributes) raw.attributes (omega arith) in
    let back = length-append (flat_map range_bytes raw.ranges) (number_bytes (length raw.attributes) ++ flat_map attribute_bytes raw.attributes) in
    let front = length-append h.code (number_bytes (length raw.ranges) ++ (flat_map range_bytes raw.ranges ++ (number_bytes (length raw.attributes) ++ flat_map attribute_bytes raw.attributes))) in
    ap length h.spelled ∙ rw all (omega (arith, front, back, h.whole))

lists_spelled : (near : ℕ) (parts : List Mark) (bytes : List ℕ) → SpellsLists near parts bytes → length bytes ≡ 1 + length (table_bytes parts)
lists_spelled near parts [] h = absurd h
lists_spelled near parts (count ∷ bytes) h = omega (arith, ap length h.1.spelled)

pub content_spelled : (near : ℕ) (pool : List PoolEntry) (content : Content) (bytes : List ℕ) → SpellsContent near pool content bytes → length bytes ≡ content_len content
content_spelled near pool (contents.Code raw) bytes h = code_spelled pool raw bytes h
content_spelled near pool (contents.ConstantValue number) bytes h = ap length h.1
content_spelled near pool (contents.Exceptions numbers) bytes h = ap length h.1 ∙ omega (arith, numbers_len numbers)
content_spelled near pool (contents.Annotations visible parts) bytes h = ap length h.spelled
content_spelled near pool (contents.ParameterAnnotations visible parts) bytes h = lists_spelled near parts bytes h
content_spelled near pool (contents.Other content) bytes h = ap length h.1

pub attribute_spelled : (pool : List PoolEntry) (place : Place) (near : ℕ) (a : RawAttribute) (bytes : List ℕ) → SpellsAttribute pool place near a bytes → length bytes ≡ attribute_len a
attribute_spelled pool place near a bytes h = ap length h.spelled ∙ omega (arith, content_spelled (near - 6) pool a.content h.content h.content_is)

-- ---- tables

pub all_spelled : {X : Type 0} (S : ℕ → X → List ℕ → Type 0) (len : X → ℕ) → ((near : ℕ) (x : X) (bytes : List ℕ) → S near x bytes → length bytes ≡ len x)
    → (near : ℕ) (xs : List X) (bytes : List ℕ) → SpellsAll S near xs bytes → length bytes ≡ sum_by len xs
all_spelled S len one near [] bytes none = refl
all_spelled S len one near (x ∷ xs) bytes (next {front = front} {back = back} first rest) =
    length-append front back ∙ omega (arith, one near x front first, all_spelled S len one (near - length front) xs back rest) ∙ sym (sum_by-cons len x xs)

pub table_spelled : {X : Type 0} (S : ℕ → X → List ℕ → Type 0) (len : X → ℕ) → ((near : ℕ) (x : X) (bytes : List ℕ) → S near x bytes → length bytes ≡ len x)
    → (near : ℕ) (xs : List X) (bytes : List ℕ) → SpellsTable S near xs bytes → length bytes ≡ 2 + sum_by len xs
table_spelled S len one near xs bytes h = ap length h.spelled ∙ omega (arith, all_spelled S len one (near - 2) xs h.items h.all)

-- each item is spelled
pub each_spelled : {X : Type 0} (S : ℕ → X → List ℕ → Type 0) (near : ℕ) (xs : List X) (bytes : List ℕ) → SpellsAll S near xs bytes → AllByRecursion (λ x. (near : ℕ) × (bytes : List ℕ) × S near x bytes) xs
each_spelled S near [] bytes none = tt
each_spelled S near (x ∷ xs) bytes (next {front = front} {back = back} first rest) = ((near, front, first), each_spelled S (near - length front) xs back rest)

-- ---- fields, methods and classes

pub attributes_spelled : (pool : List PoolEntry) (place : Place) (near : ℕ) (xs : List RawAttribute) (bytes : List ℕ) → SpellsTable (SpellsAttribute pool place) near xs bytes → length bytes ≡ 2 + sum_by attribute_len xs
attributes_spelled pool place near xs bytes h = table_spelled (SpellsAttribute pool place) attribute_len (attribute_spelled pool place) near xs bytes h

pub member_spelled : (pool : List PoolEntry) (place : Place) (near : ℕ) (m : RawMember) (bytes : List ℕ) → SpellsMember pool place near m bytes → length bytes ≡ member_len m
member_spelled pool place near m bytes h = ap length h.spelled ∙ omega (arith, attributes_spelled pool place (near - 6) m.attributes h.table h.attributes)

pub members_spelled : (pool : List PoolEntry) (place : Place) (near : ℕ) (xs : List RawMember) (bytes : List ℕ) → SpellsTable (SpellsMember pool place) near xs bytes → length bytes ≡ 2 + sum_by member_len xs
members_spelled pool place near xs bytes h = table_spelled (SpellsMember pool place) member_len (member_spelled pool place) near xs bytes h

pub rest_spelled : (pool : List PoolEntry) (near : ℕ) (c : RawRest) (bytes : List ℕ) → SpellsRest pool near c bytes
    → length bytes ≡ 14 + 2 * length c.interfaces + sum_by member_len c.fields + sum_by member_len c.methods + sum_by attribute_len c.attributes
rest_spelled pool near c bytes h =
    let fields = members_spelled pool _ _ c.fields h.fields_are h.fields in
    let methods = members_spelled pool _ _ c.methods h.methods_are h.methods in
    let table = attributes_spelled pool _ _ c.attributes h.table h.attributes in
    let one = length-append (flat_map number_bytes c.interfaces) (h.fields_are ++ (h.methods_are ++ h.table)) in
    let two = length-append h.fields_are (h.methods_are ++ h.table) in
    let three = length-append h.methods_are h.table in
    ap length h.spelled ∙ omega (arith, fields, methods, table, one, two, three, numbers_len c.interfaces)

-- ---- parts of what is spelled

pub table_each : (pool : List PoolEntry) (place : Place) (near : ℕ) (xs : List RawAttribute) (bytes : List ℕ) → SpellsTable (SpellsAttribute pool place) near xs bytes → AllByRecursion (IsSpelledAttribute pool) xs
table_each pool place near xs bytes h =
    AllByRecursion-map (λ a. (near : ℕ) × (bytes : List ℕ) × SpellsAttribute pool place near a bytes) (IsSpelledAttribute pool) xs (λ a k. (place, k.0, k.1, k.2)) (each_spelled (SpellsAttribute pool place) (near - 2) xs h.items h.all)

pub members_each : (pool : List PoolEntry) (place : Place) (near : ℕ) (xs : List RawMember) (bytes : List ℕ) → SpellsTable (SpellsMember pool place) near xs bytes → AllByRecursion (IsSpelledMember pool) xs
members_each pool place near xs bytes h =
    AllByRecursion-map (λ m. (near : ℕ) × (bytes : List ℕ) × SpellsMember pool place near m bytes) (IsSpelledMember pool) xs (λ m k. (place, k.0, k.1, k.2)) (each_spelled (SpellsMember pool place) (near - 2) xs h.items h.all)

pub member_attributes : (pool : List PoolEntry) (m : RawMember) → IsSpelledMember pool m → AllByRecursion (IsSpelledAttribute pool) m.attributes
member_attributes pool m (place, near, bytes, h) = table_each pool place (near - 6) m.attributes h.table h.attributes

pub member_few : (pool : List PoolEntry) (m : RawMember) → IsSpelledMember pool m → length m.attributes < 2 ^ 16
member_few pool m (place, near, bytes, h) = h.attributes.few

pub attribute_content : (pool : List PoolEntry) (a : RawAttribute) → IsSpelledAttribute pool a → IsSpelledContent pool a.content
attribute_content pool a (place, near, bytes, h) = (near - 6, h.content, h.short, h.content_is)
