-- Fields and methods in which each item meets what it must are read.
use Rattle.std.proofs.Common.{◌≡◌, ℕ, zero, suc, ◌+◌, ◌-◌, ◌<◌, ◌≤◌, Bool, true, false, if◌then◌else◌, List, [], ◌∷◌, ◌++◌, length, take, Option, Some, None, refl, sym, ap, subst, ◌∙◌, inl, inr, arith}
use Rattle.std.specs.Prelude.{IsTrue, slice_get, bytes_eq, codes}
use Rattle.std.specs.Option.{IsSomeAnd}
use Rattle.std.specs.List.{flat_map, sum_by, AllByRecursion}
use Rattle.std.proofs.lemmas.Bool.{cases_lt}
use Rattle.std.proofs.lemmas.List.{length-append}
use Rattle.std.proofs.lemmas.List.Sums.{sum_by-cons}
use Rattle.std.proofs.lemmas.Option.{none-some}
use Rattle.wv_base.specs.declared.class_file.PoolEntry.{PoolEntry}
use Rattle.wv_base.specs.declared.descriptor.FieldType.{FieldType}
use Rattle.wv_base.specs.declared.frame.Frame.{Frame}
use Rattle.wv_base.specs.Descriptor.{IsFieldDescriptor, IsMethodDescriptor}
use Rattle.wv_base.specs.Names.{is_unqualified, is_method_name}
use Rattle.wv_pool.specs.References.{text_of, IsText}
use Rattle.wv_pool.specs.Constants.{class_name, constant_of}
use Rattle.wv_pool.proofs.Behind.{some_is}
use Rattle.wv_pool.proofs.SoundPools.{some_and}
use Rattle.wv_code.specs.declared.raw_body.RawBody.{RawBody}
use Rattle.wv_code.specs.Breaks.{NamesClass}
use Rattle.wv_code.specs.Breaks.{Breaks as CodeBreaks, FirstBreak as FirstCodeBreak}
use Rattle.wv_code.specs.Least.{Broken, Behind}
use Rattle.wv_code.proofs.OffsetFrames.{all_append}
use Rattle.wv_attr.specs.declared.mark.Mark.{Mark}
use Rattle.wv_attr.specs.Groups.{Follows}
use Rattle.wv_attr.specs.Layout.{lists}
use Rattle.wv_attr.specs.Types.{AreTypes}
use Rattle.wv_class.specs.declared.raw_class.Place.TheVariants as places
use Rattle.wv_class.specs.declared.raw_class.Kind.TheVariants as kinds
use Rattle.wv_class.specs.declared.raw_class.Content.{Content}
use Rattle.wv_class.specs.declared.raw_class.Content.TheVariants as contents
use Rattle.wv_class.specs.declared.raw_class.RawAttribute.{RawAttribute}
use Rattle.wv_class.specs.declared.raw_class.RawMember.{RawMember}
use Rattle.wv_class.specs.Flags.{is_static, is_bodiless}
use Rattle.wv_class.specs.Kinds.{kind_at, kind_of, text_kind}
use Rattle.wv_class.specs.Layout.{SpellsLists, SpellsAttribute, SpellsMember}
use Rattle.wv_class.specs.StartFrame.{start_frame}
use Rattle.wv_class.specs.Breaks.{attribute_len, InList, InNumbers, StartsWith, IsValueOf, PartsBreak, ContentBreaks, is_value, is_code, Has, AttributeBreaks, AttributesBreak, HasItsCode, FieldBreaks, MethodBreaks}
use Rattle.wv_class.specs.Breaks as breaks
use Rattle.wv_class.specs.Checking.{IsSpelledContent, IsSpelledAttribute}
use Rattle.wv_class.specs.Meaning.{content_codes, content_values, content_exceptions, codes_in, values_in, exceptions_in}
use Rattle.wv_class.specs.MemberRead.{HasReadNotes, HaveReadNotes, NamesText, NamesConstant, HasReadCode, IsRead}
use Rattle.wv_class.proofs.Lengths.{each_spelled, table_each, attribute_content}
use Rattle.wv_class.proofs.MeaningParts.{Stable, parts_sound}

never_true : false ≡ true → ⊥
never_true e = cc

-- ---- what is there, if it can't be missing

pub found_stable : {A : Type 0} (o : Option A) → Stable ((a : A) × (o ≡ Some a))
found_stable (Some a) h = (a, refl)
found_stable None h = absurd (h (λ f. none-some f.0 f.1))

pub some_found : {A : Type 0} (o : Option A) (P : A → Type 0) → ((IsSomeAnd o P → ⊥) → ⊥) → (a : A) × (o ≡ Some a)
some_found (Some a) P h = (a, refl)
some_found None P h = absurd (h (λ x. x))

-- ---- lists

pub all_from : {X : Type 0} (P : X → Type 0) (xs : List X) → ((k : ℕ) (x : X) → slice_get xs k ≡ Some x → P x) → AllByRecursion P xs
all_from P [] h = tt
all_from P (x ∷ xs) h = (h zero x refl, all_from P xs (λ k y is. h (suc k) y is))

pub all_get : {X : Type 0} (P : X → Type 0) (xs : List X) (k : ℕ) (x : X) → AllByRecursion P xs → slice_get xs k ≡ Some x → P x
all_get P [] k x h is = absurd (none-some x is)
all_get P (y ∷ xs) zero x h is = subst P (some_is y x is) h.0
all_get P (y ∷ xs) (suc k) x h is = all_get P xs k x h.1 is

flat_all : {X Y : Type 0} (P : Y → Type 0) (f : X → List Y) (xs : List X) → AllByRecursion (λ x. AllByRecursion P (f x)) xs → AllByRecursion P (flat_map f xs)
flat_all P f [] h = tt
flat_all P f (x ∷ xs) h = all_append P (f x) (flat_map f xs) h.0 (flat_all P f xs h.1)

-- where a list has no break, no item has one
pub each_unbroken : {X : Type 0} (len : X → ℕ) (base : ℕ) (xs : List X) (P : ℕ → X → ℕ → Type 0) → ((at : ℕ) → InList len base xs P at → ⊥) → (k : ℕ) (x : X) → slice_get xs k ≡ Some x → (n : ℕ) → P k x n → ⊥
each_unbroken len base xs P none k x is n p = none (base + sum_by len (take k xs) + n) (k, x, is, (n, p, refl))

pub numbers_hold : (base : ℕ) (numbers : List ℕ) (A B : ℕ → Type 0) → ((at : ℕ) → InNumbers base numbers A at → ⊥) → ((n : ℕ) → ((A n → ⊥) → ⊥) → B n) → AllByRecursion B numbers
numbers_hold base numbers A B none holds =
    all_from B numbers (λ k n is. holds n (λ no. each_unbroken (λ _. 2) base numbers (λ k number. Broken (A number) 0) none k n is 0 (refl, no)))

-- ---- annotations

lists_follow : (near : ℕ) (parts : List Mark) (bytes : List ℕ) → SpellsLists near parts bytes → (by : ℕ) × (count : ℕ) × (count ≤ 255) × Follows by (lists count) parts
lists_follow near parts [] h = absurd h
lists_follow near parts (count ∷ bytes) h = (near - 1, count, omega (arith, h.0), h.1.follows)

module _ (pool : List PoolEntry) (types : List (Option FieldType)) (are : AreTypes pool types) where
  notes_read : (content : Content) → IsSpelledContent pool content → ((at : ℕ) → PartsBreak pool content at → ⊥) → HasReadNotes pool content
  notes_read (contents.Code raw) s none = tt
  notes_read (contents.ConstantValue number) s none = tt
  notes_read (contents.Exceptions numbers) s none = tt
  notes_read (contents.Annotations visible parts) s none = ((s.0, s.3.follows), parts_sound pool types are parts none)
  notes_read (contents.ParameterAnnotations visible parts) s none = (lists_follow s.0 parts s.1 s.3, parts_sound pool types are parts (λ at b. none (1 + at) (at, b, refl)))
  notes_read (contents.Other bytes) s none = tt

  pub class_notes : (all : List RawAttribute) (base : ℕ) → AllByRecursion (IsSpelledAttribute pool) all → ((at : ℕ) → InList attribute_len base all (λ k a. Behind 6 (PartsBreak pool a.content)) at → ⊥) → HaveReadNotes pool all
  class_notes all base spelled none =
      all_from (λ (a : RawAttribute). HasReadNotes pool a.content) all
      (λ k a is. notes_read a.content (attribute_content pool a (all_get (IsSpelledAttribute pool) all k a spelled is))
      (λ at b. each_unbroken attribute_len base all (λ k a. Behind 6 (PartsBreak pool a.content)) none k a is (6 + at) (at, b, refl)))

-- ---- code

none_before : (pool : List PoolEntry) (frame : Frame) (raw : RawBody) → ((at : ℕ) → FirstCodeBreak pool frame raw at → ⊥) → (bound at : ℕ) → at < bound → CodeBreaks pool frame raw at → ⊥
none_before pool frame raw none zero at lt b = absurd (omega arith)
none_before pool frame raw none (suc bound) at lt b = none at (record { breaks = b; none = λ before below c. none_before pool frame raw none bound before (omega arith) c })

-- what has no first break has none
code_sound : (pool : List PoolEntry) (frame : Frame) (raw : RawBody) → ((at : ℕ) → FirstCodeBreak pool frame raw at → ⊥) → (at : ℕ) → CodeBreaks pool frame raw at → ⊥
code_sound pool frame raw none at b = none_before pool frame raw none (at + 1) at (omega arith) b

code_one : (c : Content) → length (content_codes c) ≡ (if is_code c then 1 else 0)
code_one (contents.Code raw) = refl
code_one (contents.ConstantValue number) = refl
code_one (contents.Exceptions numbers) = refl
code_one (contents.Annotations visible parts) = refl
code_one (contents.ParameterAnnotations visible parts) = refl
code_one (contents.Other bytes) = refl

abbrev code_count : RawAttribute → ℕ
code_count a = if is_code a.content then 1 else 0

codes_counted : (all : List RawAttribute) → length (codes_in all) ≡ sum_by code_count all
codes_counted [] = refl
codes_counted (a ∷ all) = length-append (content_codes a.content) (codes_in all) ∙ omega (arith, code_one a.content, codes_counted all, sum_by-cons code_count a all)

few : (b : Bool) → (if b then 0 else 1) ≤ 1
few true = omega arith
few false = omega arith

codes_few : (m : RawMember) → ((HasItsCode m → ⊥) → ⊥) → length (codes_in m.attributes) ≤ 1
codes_few m h = elim (cases_lt 1 (length (codes_in m.attributes))) [
  | inl lt ↦ absurd (h (λ its. absurd (omega (arith, codes_counted m.attributes, its, few (is_bodiless m.flags), lt))))
  | inr le ↦ le
]

-- a field has no code

text_kinds : (a b c : Bool) → (if a then kinds.ConstantValue else if b then kinds.Annotations true else if c then kinds.Annotations false else kinds.Other) ≡ kinds.Code → ⊥
text_kinds true b c e = cc
text_kinds false true c e = cc
text_kinds false false true e = cc
text_kinds false false false e = cc

text_no_code : (o : Option (List ℕ)) → text_kind places.Field o ≡ kinds.Code → ⊥
text_no_code None e = cc
text_no_code (Some name) e = text_kinds (bytes_eq name (codes "ConstantValue")) (bytes_eq name (codes "RuntimeVisibleAnnotations")) (bytes_eq name (codes "RuntimeInvisibleAnnotations")) e

field_kind : (pool : List PoolEntry) (number : ℕ) → kind_at pool places.Field number ≡ kinds.Code → ⊥
unfolding kind_at
field_kind pool number e = text_no_code (text_of pool number) e

no_code : (c : Content) → (kind_of c ≡ kinds.Code → ⊥) → content_codes c ≡ []
no_code (contents.Code raw) h = absurd (h refl)
no_code (contents.ConstantValue number) h = refl
no_code (contents.Exceptions numbers) h = refl
no_code (contents.Annotations visible parts) h = refl
no_code (contents.ParameterAnnotations visible parts) h = refl
no_code (contents.Other bytes) h = refl

no_codes : (pool : List PoolEntry) (all : List RawAttribute) → AllByRecursion (λ a. (near : ℕ) × (bytes : List ℕ) × SpellsAttribute pool places.Field near a bytes) all → codes_in all ≡ []
no_codes pool [] h = refl
no_codes pool (a ∷ all) h = ap (λ t. t ++ codes_in all) (no_code a.content (λ e. field_kind pool a.name (h.0.2.known ∙ e))) ∙ no_codes pool all h.1

field_no_codes : (pool : List PoolEntry) (near : ℕ) (m : RawMember) (bytes : List ℕ) → SpellsMember pool places.Field near m bytes → codes_in m.attributes ≡ []
field_no_codes pool near m bytes h = no_codes pool m.attributes (each_spelled (SpellsAttribute pool places.Field) _ m.attributes h.attributes.items h.attributes.all)

-- ---- values

no_value : (c : Content) → (IsTrue (is_value c) → ⊥) → content_values c ≡ []
no_value (contents.Code raw) h = refl
no_value (contents.ConstantValue number) h = absurd (h refl)
no_value (contents.Exceptions numbers) h = refl
no_value (contents.Annotations visible parts) h = refl
no_value (contents.ParameterAnnotations visible parts) h = refl
no_value (contents.Other bytes) h = refl

few_values : (c : Content) → length (content_values c) ≤ 1
few_values (contents.Code raw) = omega arith
few_values (contents.ConstantValue number) = omega arith
few_values (contents.Exceptions numbers) = omega arith
few_values (contents.Annotations visible parts) = omega arith
few_values (contents.ParameterAnnotations visible parts) = omega arith
few_values (contents.Other bytes) = omega arith

no_values : (all : List RawAttribute) → ((k : ℕ) (a : RawAttribute) → slice_get all k ≡ Some a → IsTrue (is_value a.content) → ⊥) → values_in all ≡ []
no_values [] h = refl
no_values (a ∷ all) h = ap (λ t. t ++ values_in all) (no_value a.content (h zero a refl)) ∙ no_values all (λ k b is. h (suc k) b is)

one_more : (a : RawAttribute) (all : List RawAttribute) (b : Bool) → is_value a.content ≡ b → (IsTrue b → values_in all ≡ []) → length (values_in all) ≤ 1 → length (values_in (a ∷ all)) ≤ 1
one_more a all true e none le = omega (arith, length-append (content_values a.content) (values_in all), ap length (none refl), few_values a.content)
one_more a all false e none le = omega (arith, length-append (content_values a.content) (values_in all), ap length (no_value a.content (λ t. never_true (sym e ∙ t))), le)

pub one_value : (all : List RawAttribute) → ((k : ℕ) (a : RawAttribute) → slice_get all k ≡ Some a → IsTrue (is_value a.content) → Has is_value (take k all) → ⊥) → length (values_in all) ≤ 1
one_value [] h = omega arith
one_value (a ∷ all) h =
    one_more a all (is_value a.content) refl (λ e. no_values all (λ k b is t. h (suc k) b is t (zero, a, refl, e)))
    (one_value all (λ k b is t has. h (suc k) b is t (suc has.0, has.1, has.2, has.3)))

-- ---- a field or method

module _ (pool : List PoolEntry) (types : List (Option FieldType)) (are : AreTypes pool types) (class : ℕ) (m : RawMember) where
  content_values_named : (c : Content) → ((at : ℕ) → ContentBreaks pool class m c at → ⊥) → AllByRecursion (NamesConstant pool) (content_values c)
  content_values_named (contents.Code raw) none = tt
  content_values_named (contents.ConstantValue number) none = (found_stable (constant_of pool number) (λ no. none 0 (refl, λ (v : IsValueOf pool m number). no (v.value, v.value_is))), tt)
  content_values_named (contents.Exceptions numbers) none = tt
  content_values_named (contents.Annotations visible parts) none = tt
  content_values_named (contents.ParameterAnnotations visible parts) none = tt
  content_values_named (contents.Other bytes) none = tt

  content_thrown : (c : Content) → ((at : ℕ) → ContentBreaks pool class m c at → ⊥) → AllByRecursion (NamesClass pool) (content_exceptions c)
  content_thrown (contents.Code raw) none = tt
  content_thrown (contents.ConstantValue number) none = tt
  content_thrown (contents.Exceptions numbers) none = numbers_hold 2 numbers (NamesClass pool) (NamesClass pool) none (λ n h. found_stable (class_name pool n) h)
  content_thrown (contents.Annotations visible parts) none = tt
  content_thrown (contents.ParameterAnnotations visible parts) none = tt
  content_thrown (contents.Other bytes) none = tt

  content_notes : (c : Content) → IsSpelledContent pool c → ((at : ℕ) → ContentBreaks pool class m c at → ⊥) → HasReadNotes pool c
  content_notes (contents.Code raw) s none = tt
  content_notes (contents.ConstantValue number) s none = tt
  content_notes (contents.Exceptions numbers) s none = tt
  content_notes (contents.Annotations visible parts) s none = notes_read pool types are (contents.Annotations visible parts) s none
  content_notes (contents.ParameterAnnotations visible parts) s none = notes_read pool types are (contents.ParameterAnnotations visible parts) s none
  content_notes (contents.Other bytes) s none = tt

  content_read : (((frame : Frame) → StartsWith pool class m frame → ⊥) → ⊥) → (c : Content) → IsSpelledContent pool c → ((at : ℕ) → ContentBreaks pool class m c at → ⊥) → AllByRecursion (HasReadCode pool class m) (content_codes c)
  content_read starts (contents.Code raw) s none = (record { content = (s.1, s.3); sound = λ frame start. code_sound pool frame raw (λ at b. none at (frame, start, b)); starts = starts }, tt)
  content_read starts (contents.ConstantValue number) s none = tt
  content_read starts (contents.Exceptions numbers) s none = tt
  content_read starts (contents.Annotations visible parts) s none = tt
  content_read starts (contents.ParameterAnnotations visible parts) s none = tt
  content_read starts (contents.Other bytes) s none = tt

  module _ (spelled : AllByRecursion (IsSpelledAttribute pool) m.attributes) (none : (at : ℕ) → AttributesBreak pool class m m.attributes 8 at → ⊥) where
    attribute_unbroken : (k : ℕ) (a : RawAttribute) → slice_get m.attributes k ≡ Some a → (n : ℕ) → AttributeBreaks pool class m (take k m.attributes) a n → ⊥
    attribute_unbroken k a is n b = each_unbroken attribute_len 8 m.attributes (λ k a. AttributeBreaks pool class m (take k m.attributes) a) none k a is n b

    content_unbroken : (k : ℕ) (a : RawAttribute) → slice_get m.attributes k ≡ Some a → (n : ℕ) → ContentBreaks pool class m a.content n → ⊥
    content_unbroken k a is n b = attribute_unbroken k a is (6 + n) (inr (n, b, refl))

    content_spelled : (k : ℕ) (a : RawAttribute) → slice_get m.attributes k ≡ Some a → IsSpelledContent pool a.content
    content_spelled k a is = attribute_content pool a (all_get (IsSpelledAttribute pool) m.attributes k a spelled is)

    member_one_value : length (values_in m.attributes) ≤ 1
    member_one_value = one_value m.attributes (λ k a is t has. attribute_unbroken k a is 0 (inl (refl, t, has)))

    member_values : AllByRecursion (NamesConstant pool) (values_in m.attributes)
    member_values =
        flat_all (NamesConstant pool) (λ (a : RawAttribute). content_values a.content) m.attributes
        (all_from (λ (a : RawAttribute). AllByRecursion (NamesConstant pool) (content_values a.content)) m.attributes (λ k a is. content_values_named a.content (content_unbroken k a is)))

    member_throws : AllByRecursion (NamesClass pool) (exceptions_in m.attributes)
    member_throws =
        flat_all (NamesClass pool) (λ (a : RawAttribute). content_exceptions a.content) m.attributes
        (all_from (λ (a : RawAttribute). AllByRecursion (NamesClass pool) (content_exceptions a.content)) m.attributes (λ k a is. content_thrown a.content (content_unbroken k a is)))

    member_notes : HaveReadNotes pool m.attributes
    member_notes = all_from (λ (a : RawAttribute). HasReadNotes pool a.content) m.attributes (λ k a is. content_notes a.content (content_spelled k a is) (content_unbroken k a is))

    member_codes : (((frame : Frame) → StartsWith pool class m frame → ⊥) → ⊥) → AllByRecursion (HasReadCode pool class m) (codes_in m.attributes)
    member_codes starts =
        flat_all (HasReadCode pool class m) (λ (a : RawAttribute). content_codes a.content) m.attributes
        (all_from (λ (a : RawAttribute). AllByRecursion (HasReadCode pool class m) (content_codes a.content)) m.attributes (λ k a is. content_read starts a.content (content_spelled k a is) (content_unbroken k a is)))

  module _ (before : List RawMember) (near : ℕ) (bytes : List ℕ) where
    pub field_read : SpellsMember pool places.Field near m bytes → ((at : ℕ) → FieldBreaks pool class before m at → ⊥) → IsRead pool class m
    field_read s none =
        let spelled = table_each pool places.Field (near - 6) m.attributes s.table s.attributes in
        let unbroken : (at : ℕ) → AttributesBreak pool class m m.attributes 8 at → ⊥ = λ at b. none at (breaks.attributes b) in
        let no_codes : codes_in m.attributes ≡ [] = field_no_codes pool near m bytes s in
        record {
          name = some_found (text_of pool m.name) (λ text. IsTrue (is_unqualified text)) (λ no. none 2 (breaks.name no));
          descriptor = some_found (text_of pool m.descriptor) IsFieldDescriptor (λ no. none 4 (breaks.descriptor no));
          one_code = omega (arith, ap length no_codes);
          codes = subst (AllByRecursion (HasReadCode pool class m)) (sym no_codes) tt;
          one_value = member_one_value spelled unbroken;
          values = member_values spelled unbroken;
          throws = member_throws spelled unbroken;
          notes = member_notes spelled unbroken;
        }

    pub method_read : NamesClass pool class → SpellsMember pool places.Method near m bytes → ((at : ℕ) → MethodBreaks pool class before m at → ⊥) → IsRead pool class m
    method_read owner s none =
        let spelled = table_each pool places.Method (near - 6) m.attributes s.table s.attributes in
        let unbroken : (at : ℕ) → AttributesBreak pool class m m.attributes 8 at → ⊥ = λ at b. none at (breaks.attributes b) in
        let name : NamesText pool m.name = some_found (text_of pool m.name) (λ text. IsTrue (is_method_name text)) (λ no. none 2 (breaks.name no)) in
        record {
          name = name;
          descriptor = some_found (text_of pool m.descriptor) IsMethodDescriptor (λ no. none 4 (breaks.descriptor no));
          one_code = codes_few m (λ no. none 0 (breaks.code no));
          codes = member_codes spelled unbroken (λ no. none 4 (breaks.descriptor (λ d. starts owner name d no)));
          one_value = member_one_value spelled unbroken;
          values = member_values spelled unbroken;
          throws = member_throws spelled unbroken;
          notes = member_notes spelled unbroken;
        }
      where
        starts : NamesClass pool class → NamesText pool m.name → IsText pool m.descriptor IsMethodDescriptor → ((frame : Frame) → StartsWith pool class m frame → ⊥) → ⊥
        starts owner name d never =
            let t = some_and (text_of pool m.descriptor) IsMethodDescriptor d in
            never (start_frame (is_static m.flags) owner.0 name.0 t.2.0) (record {
              owner = owner.0;
              owner_is = owner.1;
              name = name.0;
              name_is = name.1;
              descriptor = t.0;
              descriptor_is = t.1;
              type = t.2.0;
              type_is = (t.2.1, t.2.2);
              frame_is = refl;
            })
