-- A small class that is read, without frames and ranges, can be written.
use Rattle.std.proofs.Common.{◌≡◌, ℕ, ◌+◌, ◌-◌, ◌*◌, ◌<◌, ◌≤◌, ◌^◌, List, [], ◌∷◌, ◌++◌, length, take, Option, Some, None, refl, sym, ap, subst, ◌∙◌, arith}
use Rattle.std.specs.List.{sum_by, AllByRecursion}
use Rattle.std.proofs.lemmas.List.{length-append}
use Rattle.std.proofs.lemmas.List.Sums.{sum_by-cons}
use Rattle.wv_base.specs.declared.class_file.PoolEntry.{PoolEntry}
use Rattle.wv_base.specs.declared.class_file.Member.{Member}
use Rattle.wv_base.specs.declared.class_file.Body.{Body}
use Rattle.wv_base.specs.declared.class_file.ClassFile.{ClassFile}
use Rattle.wv_pool.specs.Entries.{pool_bytes}
use Rattle.wv_pool.specs.References.{IsPool}
use Rattle.wv_code.specs.Least.{Broken}
use Rattle.wv_class.specs.declared.raw_class.Place.TheVariants as places
use Rattle.wv_class.specs.declared.raw_class.RawMember.{RawMember}
use Rattle.wv_class.specs.declared.raw_class.RawRest.{RawRest}
use Rattle.wv_class.specs.declared.raw_class.RawClass.{RawClass}
use Rattle.wv_class.specs.Layout.{SpellsAttribute, SpellsMember, SpellsRest, IsClass, numbers_bytes, head_bytes}
use Rattle.wv_class.specs.Breaks.{attribute_len, member_len, NamesPlainClass, IsAgain, FieldBreaks, MethodBreaks, fields_place, methods_place, RestBreaks, IsSound}
use Rattle.wv_class.specs.Breaks as breaks
use Rattle.wv_class.specs.Meaning.{AreClasses, AreMembersOf, IsClassOf, Spells}
use Rattle.wv_class.specs.MemberRead.{IsRead}
use Rattle.wv_class.specs.Formed.{AreFormedKept, AreFormedNotes, AreDistinct, IsFormedField, IsFormedMethod, IsFormedClassName, IsFormedClass}
use Rattle.wv_class.proofs.ClassMeanings.{fields_read, methods_read, attributes_read}
use Rattle.wv_class.specs.Sizes.{HasNoFrames, HasNoRanges, HaveNoFrames, HaveNoRanges}
use Rattle.wv_class.proofs.Lengths.{rest_spelled}
use Rattle.wv_class.proofs.Numbered.{numbers_long}
use Rattle.wv_class.proofs.ReadMembers.{each_unbroken, all_from}
use Rattle.wv_class.proofs.FormedDescriptors.{types_there}
use Rattle.wv_class.proofs.FormedPools.{pool_sound}
use Rattle.wv_class.proofs.FormedAttributes.{Placed, attributes_notes, notes_written, kept_written}
use Rattle.wv_class.proofs.FormedMembers.{IsStraight, table_placed, plain_name, field_formed, method_formed, distinct_formed}

-- no body has frames or ranges
abbrev pub AreStraight : ClassFile → Type 0
AreStraight c = AllByRecursion (λ (m : Member). IsStraight m.body) c.methods

-- ---- lists

each_within : {X : Type 0} (len : X → ℕ) (xs : List X) (n : ℕ) → sum_by len xs < n → AllByRecursion (λ x. len x < n) xs
each_within len [] n lt = tt
each_within len (x ∷ xs) n lt =
    let sum = sum_by-cons len x xs in
    (omega (arith, sum, lt), each_within len xs n (omega (arith, sum, lt)))

-- ---- the parts behind the pool

module _ (pool : List PoolEntry) (whole : IsPool pool) (class : ℕ) where
  abbrev FieldUnbroken : RawMember → Type 0
  FieldUnbroken m = (before : List RawMember) × ((at : ℕ) → FieldBreaks pool class before m at → ⊥)

  abbrev MethodUnbroken : RawMember → Type 0
  MethodUnbroken m = (before : List RawMember) × ((at : ℕ) → MethodBreaks pool class before m at → ⊥)

  fields_formed : (raws : List RawMember) (members : List Member) → AreMembersOf pool class raws members → AllByRecursion (Placed (SpellsMember pool places.Field)) raws → AllByRecursion FieldUnbroken raws → AllByRecursion (IsRead pool class) raws
      → AllByRecursion (λ (m : RawMember). member_len m < 2 ^ 16) raws → AllByRecursion (IsFormedField pool) members
  fields_formed [] [] are p none read small = tt
  fields_formed [] (m ∷ members) are p none read small = absurd are
  fields_formed (raw ∷ raws) [] are p none read small = absurd are
  fields_formed (raw ∷ raws) (m ∷ members) are p none read small =
      (field_formed pool whole class raw m are.0 none.0.0 p.0 none.0.1 read.0 small.0, fields_formed raws members are.1 p.1 none.1 read.1 small.1)

  methods_formed : (raws : List RawMember) (members : List Member) → AreMembersOf pool class raws members → AllByRecursion (Placed (SpellsMember pool places.Method)) raws → AllByRecursion MethodUnbroken raws → AllByRecursion (IsRead pool class) raws
      → AllByRecursion (λ (m : RawMember). member_len m < 2 ^ 16) raws → AllByRecursion (λ (m : Member). IsStraight m.body) members → AllByRecursion (IsFormedMethod pool) members
  methods_formed [] [] are p none read small plain = tt
  methods_formed [] (m ∷ members) are p none read small plain = absurd are
  methods_formed (raw ∷ raws) [] are p none read small plain = absurd are
  methods_formed (raw ∷ raws) (m ∷ members) are p none read small plain =
      (method_formed pool whole class raw m are.0 none.0.0 p.0 none.0.1 read.0 small.0 plain.0, methods_formed raws members are.1 p.1 none.1 read.1 small.1 plain.1)

  abbrev IsPlain : ℕ → Type 0
  IsPlain n = (NamesPlainClass pool n → ⊥) → ⊥

  interfaces_formed : (numbers : List ℕ) (names : List (List ℕ)) → AreClasses pool numbers names → AllByRecursion IsPlain numbers → AllByRecursion IsFormedClassName names
  interfaces_formed [] [] are plain = tt
  interfaces_formed [] (name ∷ names) are plain = absurd are
  interfaces_formed (n ∷ numbers) [] are plain = absurd are
  interfaces_formed (n ∷ numbers) (name ∷ names) are plain = (plain_name pool whole n name plain.0 are.0, interfaces_formed numbers names are.1 plain.1)

-- where the parts stand, each within the bytes that are looked at
module _ (pool : List PoolEntry) (near : ℕ) (c : RawRest) (bytes : List ℕ) (s : SpellsRest pool near c bytes) (room : length bytes ≤ near) where
  sizes : length bytes ≡ 8 + 2 * length c.interfaces + length s.fields_are + length s.methods_are + length s.table
  sizes =
      let one = length-append (numbers_bytes c.interfaces) (s.fields_are ++ (s.methods_are ++ s.table)) in
      let two = length-append s.fields_are (s.methods_are ++ s.table) in
      let three = length-append s.methods_are s.table in
      let spelled = ap length s.spelled in
      let numbers = numbers_long c.interfaces in
      omega (arith, spelled, one, two, three, numbers)

  fields_placed : AllByRecursion (Placed (SpellsMember pool places.Field)) c.fields
  fields_placed = table_placed (SpellsMember pool places.Field) (near - (8 + 2 * length c.interfaces)) c.fields s.fields_are s.fields (let e = sizes in omega (arith, e, room))

  methods_placed : AllByRecursion (Placed (SpellsMember pool places.Method)) c.methods
  methods_placed = table_placed (SpellsMember pool places.Method) (near - (8 + 2 * length c.interfaces) - length s.fields_are) c.methods s.methods_are s.methods (let e = sizes in omega (arith, e, room))

  attributes_placed : AllByRecursion (Placed (SpellsAttribute pool places.Class)) c.attributes
  attributes_placed =
      table_placed (SpellsAttribute pool places.Class) (near - (8 + 2 * length c.interfaces) - length s.fields_are - length s.methods_are) c.attributes s.table s.attributes (let e = sizes in omega (arith, e, room))

-- ---- the class

module _ (bytes : List ℕ) (c : ClassFile) (raw : RawClass) (layout : IsClass raw bytes) (sound : IsSound raw) (means : IsClassOf raw c) (small : length bytes < 2 ^ 16) (plain : AreStraight c) where
  abbrev pool : List PoolEntry
  pool = raw.pool

  abbrev rest : RawRest
  rest = raw.rest

  whole : IsPool pool
  whole = pool_sound pool (λ at b. sound (8 + at) (breaks.pool b)) layout.pool

  unbroken : (at : ℕ) → RestBreaks pool rest at → ⊥
  unbroken at b = sound (8 + length (pool_bytes pool) + at) (breaks.rest b)

  abbrev near : ℕ
  near = length bytes - 8 - length (pool_bytes pool)

  spelled : SpellsRest pool near rest layout.rest
  spelled = layout.rest_is

  -- what stands behind the pool ends where the file does
  ends : 8 + length (pool_bytes pool) + length layout.rest ≡ length bytes
  ends =
      let one = ap length layout.spelled ∙ length-append (head_bytes raw) (pool_bytes pool ++ layout.rest) in
      let two = length-append (pool_bytes pool) layout.rest in
      omega (arith, one, two)

  room : length layout.rest ≤ near
  room = let e = ends in omega (arith, e)

  -- how many bytes the parts take
  rest_small : 14 + 2 * length rest.interfaces + sum_by member_len rest.fields + sum_by member_len rest.methods + sum_by attribute_len rest.attributes < 2 ^ 16
  rest_small = let e = ends in let f = rest_spelled pool near rest layout.rest spelled in omega (arith, e, f, small)

  fields : AllByRecursion (IsFormedField pool) c.fields
  fields =
      let types = types_there pool in
      fields_formed pool whole rest.class rest.fields c.fields means.fields (fields_placed pool near rest layout.rest spelled room)
      (all_from (FieldUnbroken pool whole rest.class) rest.fields
      (λ k m is. (take k rest.fields, each_unbroken member_len (fields_place rest) rest.fields (λ k m. FieldBreaks pool rest.class (take k rest.fields) m) (λ at b. unbroken at (breaks.field b)) k m is)))
      (fields_read pool types.0 types.1 rest near layout.rest spelled unbroken) (each_within member_len rest.fields (2 ^ 16) (let lt = rest_small in omega (arith, lt)))

  methods : AllByRecursion (IsFormedMethod pool) c.methods
  methods =
      let types = types_there pool in
      methods_formed pool whole rest.class rest.methods c.methods means.methods (methods_placed pool near rest layout.rest spelled room)
      (all_from (MethodUnbroken pool whole rest.class) rest.methods
      (λ k m is. (take k rest.methods, each_unbroken member_len (methods_place rest) rest.methods (λ k m. MethodBreaks pool rest.class (take k rest.methods) m) (λ at b. unbroken at (breaks.method b)) k m is)))
      (methods_read pool types.0 types.1 rest near layout.rest spelled unbroken) (each_within member_len rest.methods (2 ^ 16) (let lt = rest_small in omega (arith, lt))) plain

  fields_differ : AreDistinct c.fields
  fields_differ =
      distinct_formed pool whole rest.class rest.fields c.fields means.fields
      (λ k m is again. each_unbroken member_len (fields_place rest) rest.fields (λ k m. FieldBreaks pool rest.class (take k rest.fields) m) (λ at b. unbroken at (breaks.field b)) k m is 0 (breaks.again again))

  methods_differ : AreDistinct c.methods
  methods_differ =
      distinct_formed pool whole rest.class rest.methods c.methods means.methods
      (λ k m is again. each_unbroken member_len (methods_place rest) rest.methods (λ k m. MethodBreaks pool rest.class (take k rest.methods) m) (λ at b. unbroken at (breaks.method b)) k m is 0 (breaks.again again))

  interfaces : AllByRecursion IsFormedClassName c.interfaces
  interfaces =
      interfaces_formed pool whole rest.class rest.interfaces c.interfaces means.interfaces
      (all_from (IsPlain pool whole rest.class) rest.interfaces
      (λ k n is never. each_unbroken (λ _. 2) 8 rest.interfaces (λ k number. Broken (NamesPlainClass pool number) 0) (λ at b. unbroken at (breaks.interface b)) k n is 0 (refl, never)))

  notes : AreFormedNotes places.Class c.notes
  notes =
      let types = types_there pool in
      let g = attributes_notes pool whole places.Class (attributes_placed pool near rest layout.rest spelled room) (attributes_read pool types.0 types.1 rest near layout.rest spelled unbroken) means.notes in
      let long = g.1 in
      let lt = rest_small in
      notes_written places.Class c.notes g.0 (omega (arith, long, lt))

  kept : AreFormedKept pool places.Class c.kept
  kept = subst (AreFormedKept pool places.Class) (sym means.kept) (kept_written pool places.Class rest.attributes (attributes_placed pool near rest layout.rest spelled room))

  formed : IsFormedClass c
  formed =
      let there : pool ≡ c.pool = sym means.pool in
      record {
        pool = subst IsPool there whole;
        name = plain_name pool whole rest.class c.name (λ never. unbroken 2 (breaks.class never)) means.name;
        superclass = plain_name pool whole rest.superclass c.superclass (λ never. unbroken 4 (breaks.superclass never)) means.superclass;
        interfaces = interfaces;
        fields = subst (λ (p : List PoolEntry). AllByRecursion (IsFormedField p) c.fields) there fields;
        distinct_fields = fields_differ;
        methods = subst (λ (p : List PoolEntry). AllByRecursion (IsFormedMethod p) c.methods) there methods;
        distinct_methods = methods_differ;
        notes = notes;
        kept = subst (λ (p : List PoolEntry). AreFormedKept p places.Class c.kept) there kept;
      }

straight : (ms : List Member) → AllByRecursion (λ (m : Member). HasNoFrames m.body) ms → AllByRecursion (λ (m : Member). HasNoRanges m.body) ms → AllByRecursion (λ (m : Member). IsStraight m.body) ms
straight [] frames ranges = tt
straight (m ∷ ms) (frames, others) (ranges, more) = (one m.body frames ranges, straight ms others more)
  where
    one : (body : Option Body) → HasNoFrames body → HasNoRanges body → IsStraight body
    one None frames ranges = tt
    one (Some body) frames ranges = (frames, ranges)

straight_formed : (bytes : List ℕ) (c : ClassFile) → Spells bytes c → length bytes < 2 ^ 16 → AreStraight c → IsFormedClass c
straight_formed bytes c s small plain = formed bytes c s.raw s.layout s.sound s.means small plain

-- What is read can be written.
pub read_formed : (bytes : List ℕ) (c : ClassFile) → Spells bytes c → length bytes < 2 ^ 16 → HaveNoFrames c → HaveNoRanges c → IsFormedClass c
read_formed bytes c s small frames ranges = straight_formed bytes c s small (straight c.methods frames ranges)
