-- Fields and methods that are read can be written.
use Rattle.std.proofs.Common.{◌≡◌, ◌↔◌, ℕ, zero, suc, ◌+◌, ◌-◌, ◌<◌, ◌≤◌, ◌^◌, Bool, true, false, if◌then◌else◌, List, [], ◌∷◌, ◌++◌, length, take, Option, Some, None, refl, sym, ap, subst, ◌∙◌, inl, inr, arith}
use Rattle.std.specs.Prelude.{IsTrue, slice_get, codes}
use Rattle.std.specs.Option.{IsSomeAnd, option_map, option_and_then}
use Rattle.std.specs.List.{flat_map, sum_by, AllZip, AllByRecursion}
use Rattle.std.proofs.lemmas.Bool.{cases_eq}
use Rattle.std.proofs.lemmas.List.{length-append}
use Rattle.std.proofs.lemmas.List.Sums.{sum_by-cons}
use Rattle.std.proofs.lemmas.Option.{none-some}
use Rattle.wv_base.specs.declared.class_file.PoolEntry.{PoolEntry}
use Rattle.wv_base.specs.declared.class_file.Body.{Body}
use Rattle.wv_base.specs.declared.class_file.Member.{Member}
use Rattle.wv_base.specs.declared.constant.Const.{Const}
use Rattle.wv_base.specs.declared.constant.Const.TheVariants as constants
use Rattle.wv_base.specs.Names.{is_unqualified, is_method_name, is_class_name}
use Rattle.wv_base.specs.Descriptor.{IsFieldDescriptor, IsMethodDescriptor, HasWords}
use Rattle.wv_pool.specs.Allowed.{IsClassText}
use Rattle.wv_pool.specs.References.{entry_of, text_of, class_of, IsText, IsPool}
use Rattle.wv_pool.specs.Constants.{class_name, constant_in}
use Rattle.wv_pool.proofs.Behind.{some_is, then_some}
use Rattle.wv_pool.proofs.SoundPools.{class_entry}
use Rattle.wv_code.specs.declared.raw_body.RawBody.{RawBody}
use Rattle.wv_code.proofs.AllowedConstants.{constant_allowed}
use Rattle.wv_code.proofs.LeastPlaces.{taken_front}
use Rattle.wv_code.proofs.OffsetFrames.{all_append}
use Rattle.wv_class.specs.declared.raw_class.Place.{Place}
use Rattle.wv_class.specs.declared.raw_class.Place.TheVariants as places
use Rattle.wv_class.specs.declared.raw_class.Content.{Content}
use Rattle.wv_class.specs.declared.raw_class.Content.TheVariants as contents
use Rattle.wv_class.specs.declared.raw_class.RawAttribute.{RawAttribute}
use Rattle.wv_class.specs.declared.raw_class.RawMember.{RawMember}
use Rattle.wv_class.specs.FieldValue.{is_small}
use Rattle.wv_class.specs.Flags.{is_static, is_native, is_abstract, is_bodiless}
use Rattle.wv_class.specs.Kinds.{kind_of}
use Rattle.wv_class.specs.Layout.{SpellsTable, SpellsAttribute, SpellsMember}
use Rattle.wv_class.specs.Breaks.{attribute_len, member_len, NamesPlainClass, FitsField, IsValueOf, ContentBreaks, is_code, AttributeBreaks, AttributesBreak, IsAgain, IsInitializer, HasItsCode, FieldBreaks, MethodBreaks}
use Rattle.wv_class.specs.Breaks as breaks
use Rattle.wv_class.specs.Meaning.{content_codes, content_values, content_exceptions, codes_in, values_in, exceptions_in, IsBodyIn, IsValueIn, AreClasses, IsMemberOf, AreMembersOf}
use Rattle.wv_class.specs.MemberRead.{HasReadCode, IsRead}
use Rattle.wv_class.specs.Formed.{AreFormedKept, AreFormedNotes, AreDistinct, IsFormedValue, IsFormedField, HasFormedBody, IsFormedInitializer, IsFormedWidth, IsFormedMethod, IsFormedClassName}
use Rattle.wv_class.proofs.FieldValues.{small_fits, float_fits, long_fits, double_fits, string_fits}
use Rattle.wv_class.proofs.MeaningParts.{Stable, true_stable, text_stable}
use Rattle.wv_class.proofs.ReadMembers.{each_unbroken, all_from}
use Rattle.wv_class.proofs.FormedDescriptors.{Decided, decided_stable, truth_decided, text_decided, le_decided, field_decided, method_decided, four_stable}
use Rattle.wv_class.proofs.FormedBodies.{body_formed}
use Rattle.wv_class.proofs.FormedNotes.{text_short, text_meets}
use Rattle.wv_class.proofs.FormedAttributes.{Placed, each_placed, StandsOnField, StandsOnMethod, Stands, attribute_stands, attributes_notes, notes_written, kept_written}

-- a body without frames and ranges
abbrev pub IsStraight : Option Body → Type 0
IsStraight None = Unit {0}
IsStraight (Some body) = (body.frames ≡ []) × (body.ranges ≡ [])

-- ---- lists

cons_is : {X : Type 0} (x : X) (xs : List X) → x ∷ xs ≡ [] → ⊥
cons_is x xs e = cc

flat_all : {X Y : Type 0} (P : Y → Type 0) (f : X → List Y) (xs : List X) → AllByRecursion (λ x. AllByRecursion P (f x)) xs → AllByRecursion P (flat_map f xs)
flat_all P f [] h = tt
flat_all P f (x ∷ xs) h = all_append P (f x) (flat_map f xs) h.0 (flat_all P f xs h.1)

flat_none : {X Y : Type 0} (f : X → List Y) (xs : List X) → AllByRecursion (λ x. f x ≡ []) xs → flat_map f xs ≡ []
flat_none f [] h = refl
flat_none f (x ∷ xs) h = ap (λ t. t ++ flat_map f xs) h.0 ∙ flat_none f xs h.1

each : {X : Type 0} (P Q : X → Type 0) (xs : List X) → ((x : X) → P x → Q x) → AllByRecursion P xs → AllByRecursion Q xs
each P Q [] f h = tt
each P Q (x ∷ xs) f h = (f x h.0, each P Q xs f h.1)

zip_at : {A B : Type 0} (R : A → B → Type 0) (xs : List A) (ys : List B) (k : ℕ) (y : B) → AllZip R xs ys → slice_get ys k ≡ Some y → (x : A) × (slice_get xs k ≡ Some x) × R x y
zip_at R [] [] k y h e = absurd (none-some y e)
zip_at R [] (b ∷ ys) k y h e = absurd h
zip_at R (a ∷ xs) [] k y h e = absurd h
zip_at R (a ∷ xs) (b ∷ ys) zero y h e = (a, refl, subst (R a) (some_is b y e) h.0)
zip_at R (a ∷ xs) (b ∷ ys) (suc k) y h e = zip_at R xs ys k y h.1 e

pub table_placed : {X : Type 0} (S : ℕ → X → List ℕ → Type 0) (near : ℕ) (xs : List X) (bytes : List ℕ) → SpellsTable S near xs bytes → length bytes ≤ near → AllByRecursion (Placed S) xs
table_placed S near xs bytes s le =
    let spelled = s.spelled in
    each_placed S (near - 2) xs s.items s.all (omega (arith, ap length spelled, le))

attributes_placed : (pool : List PoolEntry) (place : Place) (m : RawMember) → Placed (SpellsMember pool place) m → AllByRecursion (Placed (SpellsAttribute pool place)) m.attributes
attributes_placed pool place m p =
    let spelled = p.spelled.spelled in
    let room = p.room in
    table_placed (SpellsAttribute pool place) (p.near - 6) m.attributes p.spelled.table p.spelled.attributes (omega (arith, ap length spelled, room))

all_stand : (pool : List PoolEntry) (place : Place) (all : List RawAttribute) → AllByRecursion (Placed (SpellsAttribute pool place)) all → AllByRecursion (λ (a : RawAttribute). Stands place (kind_of a.content)) all
all_stand pool place all h = each (Placed (SpellsAttribute pool place)) (λ (a : RawAttribute). Stands place (kind_of a.content)) all (λ a p. attribute_stands pool place p.near a p.bytes p.spelled) h

-- ---- what has no place among attributes

field_no_code : (c : Content) → StandsOnField (kind_of c) → content_codes c ≡ []
field_no_code (contents.Code raw) h = absurd h
field_no_code (contents.ConstantValue number) h = refl
field_no_code (contents.Exceptions numbers) h = absurd h
field_no_code (contents.Annotations visible parts) h = refl
field_no_code (contents.ParameterAnnotations visible parts) h = absurd h
field_no_code (contents.Other bytes) h = refl

field_no_exceptions : (c : Content) → StandsOnField (kind_of c) → content_exceptions c ≡ []
field_no_exceptions (contents.Code raw) h = absurd h
field_no_exceptions (contents.ConstantValue number) h = refl
field_no_exceptions (contents.Exceptions numbers) h = absurd h
field_no_exceptions (contents.Annotations visible parts) h = refl
field_no_exceptions (contents.ParameterAnnotations visible parts) h = absurd h
field_no_exceptions (contents.Other bytes) h = refl

method_no_value : (c : Content) → StandsOnMethod (kind_of c) → content_values c ≡ []
method_no_value (contents.Code raw) h = refl
method_no_value (contents.ConstantValue number) h = absurd h
method_no_value (contents.Exceptions numbers) h = refl
method_no_value (contents.Annotations visible parts) h = refl
method_no_value (contents.ParameterAnnotations visible parts) h = refl
method_no_value (contents.Other bytes) h = refl

no_body_in : (pool : List PoolEntry) (class : ℕ) (m : RawMember) (raws : List RawBody) (body : Option Body) → raws ≡ [] → IsBodyIn pool class m raws body → body ≡ None
no_body_in pool class m [] None e h = refl
no_body_in pool class m [] (Some body) e h = absurd h
no_body_in pool class m (raw ∷ raws) body e h = absurd (cons_is raw raws e)

no_value_in : (pool : List PoolEntry) (numbers : List ℕ) (value : Option Const) → numbers ≡ [] → IsValueIn pool numbers value → value ≡ None
no_value_in pool [] None e h = refl
no_value_in pool [] (Some value) e h = absurd h
no_value_in pool (n ∷ numbers) value e h = absurd (cons_is n numbers e)

no_classes : (pool : List PoolEntry) (numbers : List ℕ) (names : List (List ℕ)) → numbers ≡ [] → AreClasses pool numbers names → names ≡ []
no_classes pool [] [] e h = refl
no_classes pool [] (name ∷ names) e h = absurd h
no_classes pool (n ∷ numbers) names e h = absurd (cons_is n numbers e)

-- ---- the values of fields

by_iff : {A B : Type 0} → Decided A → A ↔ B → Decided B
by_iff (inl a) i = inl (i.0 a)
by_iff (inr none) i = inr (λ b. none (i.1 b))

abbrev IsFieldConstant : Const → Type 0
IsFieldConstant (constants.Integer value) = Unit {0}
IsFieldConstant (constants.Float bits) = Unit {0}
IsFieldConstant (constants.Long value) = Unit {0}
IsFieldConstant (constants.Double bits) = Unit {0}
IsFieldConstant (constants.String text) = Unit {0}
IsFieldConstant _ = ⊥

field_constant : (d : List ℕ) (c : Const) → FitsField d c → IsFieldConstant c
field_constant d c breaks.boolean = tt
field_constant d c breaks.byte = tt
field_constant d c breaks.char = tt
field_constant d c breaks.short = tt
field_constant d c breaks.int = tt
field_constant d c breaks.float = tt
field_constant d c breaks.long = tt
field_constant d c breaks.double = tt
field_constant d c breaks.string = tt

fits_decided : (d : List ℕ) (c : Const) → Decided (FitsField d c)
fits_decided d (constants.Integer value) = by_iff (truth_decided (is_small d)) (small_fits d value)
fits_decided d (constants.Float bits) = by_iff (text_decided d (codes "F")) (float_fits d bits)
fits_decided d (constants.Long value) = by_iff (text_decided d (codes "J")) (long_fits d value)
fits_decided d (constants.Double bits) = by_iff (text_decided d (codes "D")) (double_fits d bits)
fits_decided d (constants.String text) = by_iff (text_decided d (codes "Ljava/lang/String;")) (string_fits d text)
fits_decided d (constants.Utf8 text) = inr (field_constant d (constants.Utf8 text))
fits_decided d (constants.Class name) = inr (field_constant d (constants.Class name))
fits_decided d (constants.Field m) = inr (field_constant d (constants.Field m))
fits_decided d (constants.Method m interface) = inr (field_constant d (constants.Method m interface))
fits_decided d (constants.NameAndType name descriptor) = inr (field_constant d (constants.NameAndType name descriptor))
fits_decided d (constants.MethodHandle kind m interface) = inr (field_constant d (constants.MethodHandle kind m interface))
fits_decided d (constants.MethodType descriptor) = inr (field_constant d (constants.MethodType descriptor))
fits_decided d (constants.InvokeDynamic bootstrap name descriptor) = inr (field_constant d (constants.InvokeDynamic bootstrap name descriptor))

-- ---- code

code_one : (c : Content) → length (content_codes c) ≡ (if is_code c then 1 else 0)
code_one (contents.Code raw) = refl
code_one (contents.ConstantValue number) = refl
code_one (contents.Exceptions numbers) = refl
code_one (contents.Annotations visible parts) = refl
code_one (contents.ParameterAnnotations visible parts) = refl
code_one (contents.Other bytes) = refl

abbrev code_count : RawAttribute → ℕ
code_count a = if is_code a.content then 1 else 0

codes_counted : (all : List RawAttribute) → length (codes_in all) ≡ sum_by code_count all
codes_counted [] = refl
codes_counted (a ∷ all) = length-append (content_codes a.content) (codes_in all) ∙ omega (arith, code_one a.content, codes_counted all, sum_by-cons code_count a all)

none_bodiless : (b : Bool) → ◌≡◌ {A = ℕ} 0 (if b then 0 else 1) → b ≡ true
none_bodiless true e = refl
none_bodiless false e = absurd (omega (arith, e))

one_bodied : (b : Bool) → ◌≡◌ {A = ℕ} 1 (if b then 0 else 1) → b ≡ false
one_bodied true e = absurd (omega (arith, e))
one_bodied false e = refl

false_stable : (b : Bool) → Stable (b ≡ false)
false_stable false h = refl
false_stable true h = absurd (h true_false)
  where
    true_false : true ≡ false → ⊥
    true_false e = cc

module _ (pool : List PoolEntry) (whole : IsPool pool) where
  -- ---- texts and classes

  held : (n : ℕ) (P : List ℕ → Type 0) (x : List ℕ) → Stable (P x) → ((IsText pool n P → ⊥) → ⊥) → text_of pool n ≡ Some x → P x
  held n P x s h e = s (λ no. h (λ t. no (text_meets pool whole n P x t e)))

  class_text : (n : ℕ) (name : List ℕ) → class_name pool n ≡ Some name → IsClassText name
  class_text n name e =
      let t = then_some (text_of pool) (class_of pool n) name e in
      let entry = class_entry (entry_of pool n) t.0 t.1 in
      constant_allowed pool whole n (constants.Class name) (ap (option_and_then (constant_in pool)) entry ∙ ap (option_map (λ y. constants.Class y)) t.2)

  pub plain_name : (n : ℕ) (name : List ℕ) → ((NamesPlainClass pool n → ⊥) → ⊥) → class_name pool n ≡ Some name → IsFormedClassName name
  plain_name n name h e = (
    true_stable (is_class_name name) (λ no. h (λ p. no (subst (λ (x : List ℕ). IsTrue (is_class_name x)) (some_is p.0 name (sym p.1 ∙ e)) p.2))),
    (class_text n name e).0,
  )

  classes_text : (numbers : List ℕ) (names : List (List ℕ)) → AreClasses pool numbers names → AllByRecursion IsClassText names
  classes_text [] [] h = tt
  classes_text [] (name ∷ names) h = absurd h
  classes_text (n ∷ numbers) [] h = absurd h
  classes_text (n ∷ numbers) (name ∷ names) h = (class_text n name h.0, classes_text numbers names h.1)

  module _ (class : ℕ) (raw : RawMember) (m : Member) (means : IsMemberOf pool class raw m) where
    -- ---- values

    abbrev IsValued : ℕ → Type 0
    IsValued n = (IsValueOf pool raw n → ⊥) → ⊥

    content_valued : (c : Content) → ((at : ℕ) → ContentBreaks pool class raw c at → ⊥) → AllByRecursion IsValued (content_values c)
    content_valued (contents.Code r) none = tt
    content_valued (contents.ConstantValue number) none = ((λ no. none 0 (refl, no)), tt)
    content_valued (contents.Exceptions numbers) none = tt
    content_valued (contents.Annotations visible parts) none = tt
    content_valued (contents.ParameterAnnotations visible parts) none = tt
    content_valued (contents.Other bytes) none = tt

    values_valued : ((at : ℕ) → AttributesBreak pool class raw raw.attributes 8 at → ⊥) → AllByRecursion IsValued (values_in raw.attributes)
    values_valued none =
        flat_all IsValued (λ (a : RawAttribute). content_values a.content) raw.attributes
        (all_from (λ (a : RawAttribute). AllByRecursion IsValued (content_values a.content)) raw.attributes
        (λ k a is. content_valued a.content (λ at b. each_unbroken attribute_len 8 raw.attributes (λ k a. AttributeBreaks pool class raw (take k raw.attributes) a) none k a is (6 + at) (inr (at, b, refl)))))

    value_formed : (numbers : List ℕ) (value : Option Const) → IsValueIn pool numbers value → AllByRecursion IsValued numbers → IsFormedValue m.descriptor value
    value_formed [] None h v = tt
    value_formed [] (Some value) h v = absurd h
    value_formed (n ∷ []) None h v = absurd h
    value_formed (n ∷ []) (Some value) h v = (decided_stable (fits_decided m.descriptor value) (λ no. v.0 (λ is. no (fits is))), constant_allowed pool whole n value h)
      where
        fits : IsValueOf pool raw n → FitsField m.descriptor value
        fits is =
            let d = some_is is.descriptor m.descriptor (sym is.descriptor_is ∙ means.descriptor) in
            let c = some_is is.value value (sym is.value_is ∙ h) in
            subst (λ (t : List ℕ). FitsField t value) d (subst (FitsField is.descriptor) c is.fits)
    value_formed (n ∷ o ∷ numbers) None h v = absurd h
    value_formed (n ∷ o ∷ numbers) (Some value) h v = absurd h

    -- ---- what fields and methods have both

    members_notes : (place : Place) → AllByRecursion (Placed (SpellsAttribute pool place)) raw.attributes → IsRead pool class raw → member_len raw < 2 ^ 16 → AreFormedNotes place m.notes
    members_notes place p read small =
        let g = attributes_notes pool whole place p read.notes means.notes in
        let long = g.1 in
        notes_written place m.notes g.0 (omega (arith, long, small))

    members_kept : (place : Place) → AllByRecursion (Placed (SpellsAttribute pool place)) raw.attributes → AreFormedKept pool place m.kept
    members_kept place p = subst (AreFormedKept pool place) (sym means.kept) (kept_written pool place raw.attributes p)

    -- ---- fields

    pub field_formed : (before : List RawMember) → Placed (SpellsMember pool places.Field) raw → ((at : ℕ) → FieldBreaks pool class before raw at → ⊥) → IsRead pool class raw → member_len raw < 2 ^ 16 → IsFormedField pool m
    field_formed before spelled none read small =
        let p = attributes_placed pool places.Field raw spelled in
        let st = all_stand pool places.Field raw.attributes p in
        let no_codes : codes_in raw.attributes ≡ [] =
        flat_none (λ (a : RawAttribute). content_codes a.content) raw.attributes (each (λ (a : RawAttribute). StandsOnField (kind_of a.content)) (λ (a : RawAttribute). content_codes a.content ≡ []) raw.attributes (λ a h. field_no_code a.content h) st) in
        let no_exceptions : exceptions_in raw.attributes ≡ [] =
        flat_none (λ (a : RawAttribute). content_exceptions a.content) raw.attributes
        (each (λ (a : RawAttribute). StandsOnField (kind_of a.content)) (λ (a : RawAttribute). content_exceptions a.content ≡ []) raw.attributes (λ a h. field_no_exceptions a.content h) st) in
        record {
          name = (held raw.name (λ x. IsTrue (is_unqualified x)) m.name (true_stable (is_unqualified m.name)) (λ no. none 2 (breaks.name no)) means.name, text_short pool whole raw.name m.name means.name);
          descriptor = (held raw.descriptor IsFieldDescriptor m.descriptor (decided_stable (field_decided m.descriptor)) (λ no. none 4 (breaks.descriptor no)) means.descriptor, text_short pool whole raw.descriptor m.descriptor means.descriptor);
          no_body = no_body_in pool class raw (codes_in raw.attributes) m.body no_codes means.body;
          value = value_formed (values_in raw.attributes) m.value means.value (values_valued (λ at b. none at (breaks.attributes b)));
          no_throws = no_classes pool (exceptions_in raw.attributes) m.throws no_exceptions means.throws;
          notes = members_notes places.Field p read small;
          kept = members_kept places.Field p;
        }

    -- ---- methods

    bodies_formed : (raws : List RawBody) (body : Option Body) → IsBodyIn pool class raw raws body → length raws ≡ (if is_bodiless raw.flags then 0 else 1) → AllByRecursion (HasReadCode pool class raw) raws → IsStraight body → HasFormedBody pool (is_bodiless raw.flags) body
    bodies_formed [] None h e read plain = none_bodiless (is_bodiless raw.flags) e
    bodies_formed [] (Some body) h e read plain = absurd h
    bodies_formed (r ∷ []) None h e read plain = absurd h
    bodies_formed (r ∷ []) (Some body) h e read plain =
        (one_bodied (is_bodiless raw.flags) e, body_formed pool h.0 r body read.0.content.0 whole read.0.content.1 (read.0.sound h.0 h.1) h.2 plain.0 plain.1)
    bodies_formed (r ∷ s ∷ raws) None h e read plain = absurd h
    bodies_formed (r ∷ s ∷ raws) (Some body) h e read plain = absurd h

    width_formed : (before : List RawMember) → ((at : ℕ) → MethodBreaks pool class before raw at → ⊥) → IsFormedWidth m
    width_formed before none words has =
        subst (λ (f : ℕ). words + (if is_static f then 0 else 1) ≤ 255) (sym means.flags)
        (decided_stable (le_decided (words + (if is_static raw.flags then 0 else 1)) 255)
        (λ no. none 0 (breaks.wide (λ narrow. no (narrow words (subst (λ (o : Option (List ℕ)). IsSomeAnd o (λ text. HasWords text words)) (sym means.descriptor) has))))))

    initializer_formed : (before : List RawMember) → ((at : ℕ) → MethodBreaks pool class before raw at → ⊥) → IsFormedInitializer m
    initializer_formed before none e =
        four_stable (true_stable (is_static m.flags.0)) (text_stable m.descriptor (codes "()V")) (false_stable (is_native m.flags.0)) (false_stable (is_abstract m.flags.0))
        (λ no. none 0 (breaks.initializer (λ init. no (flagged (init (means.name ∙ ap (λ (t : List ℕ). Some t) e))))))
      where
        flagged : IsTrue (is_static raw.flags) × (text_of pool raw.descriptor ≡ Some (codes "()V")) × (is_native raw.flags ≡ false) × (is_abstract raw.flags ≡ false)
            → IsTrue (is_static m.flags.0) × (m.descriptor ≡ codes "()V") × (is_native m.flags.0 ≡ false) × (is_abstract m.flags.0 ≡ false)
        flagged r = (
          subst (λ (f : ℕ). IsTrue (is_static f)) (sym means.flags) r.0,
          some_is m.descriptor (codes "()V") (sym means.descriptor ∙ r.1),
          subst (λ (f : ℕ). is_native f ≡ false) (sym means.flags) r.2,
          subst (λ (f : ℕ). is_abstract f ≡ false) (sym means.flags) r.3,
        )

    pub method_formed : (before : List RawMember) → Placed (SpellsMember pool places.Method) raw → ((at : ℕ) → MethodBreaks pool class before raw at → ⊥) → IsRead pool class raw → member_len raw < 2 ^ 16 → IsStraight m.body → IsFormedMethod pool m
    method_formed before spelled none read small plain =
        let p = attributes_placed pool places.Method raw spelled in
        let st = all_stand pool places.Method raw.attributes p in
        let no_values : values_in raw.attributes ≡ [] =
        flat_none (λ (a : RawAttribute). content_values a.content) raw.attributes (each (λ (a : RawAttribute). StandsOnMethod (kind_of a.content)) (λ (a : RawAttribute). content_values a.content ≡ []) raw.attributes (λ a h. method_no_value a.content h) st) in
        let its : HasItsCode raw = decided_stable (cases_eq (sum_by code_count raw.attributes) (if is_bodiless raw.flags then 0 else 1)) (λ no. none 0 (breaks.code no)) in
        record {
          name = (held raw.name (λ x. IsTrue (is_method_name x)) m.name (true_stable (is_method_name m.name)) (λ no. none 2 (breaks.name no)) means.name, text_short pool whole raw.name m.name means.name);
          descriptor = (held raw.descriptor IsMethodDescriptor m.descriptor (decided_stable (method_decided m.descriptor)) (λ no. none 4 (breaks.descriptor no)) means.descriptor, text_short pool whole raw.descriptor m.descriptor means.descriptor);
          narrow = width_formed before none;
          initializer = initializer_formed before none;
          body = subst (λ (f : ℕ). HasFormedBody pool (is_bodiless f) m.body) (sym means.flags) (bodies_formed (codes_in raw.attributes) m.body means.body (codes_counted raw.attributes ∙ its) read.codes plain);
          no_value = no_value_in pool (values_in raw.attributes) m.value no_values means.value;
          throws = classes_text (exceptions_in raw.attributes) m.throws means.throws;
          notes = members_notes places.Method p read small;
          kept = members_kept places.Method p;
        }

  -- ---- no two are the same

  pub distinct_formed : (class : ℕ) (raws : List RawMember) (members : List Member) → AreMembersOf pool class raws members → ((k : ℕ) (raw : RawMember) → slice_get raws k ≡ Some raw → IsAgain pool (take k raws) raw → ⊥) → AreDistinct members
  distinct_formed class raws members are none j k one other lt at there name descriptor =
      let a = zip_at (IsMemberOf pool class) raws members j one are at in
      let b = zip_at (IsMemberOf pool class) raws members k other are there in
      none k b.0 b.1 (record {
        place = j;
        first = a.0;
        first_is = taken_front raws k j lt ∙ a.1;
        name = other.name;
        descriptor = other.descriptor;
        same = (
          record { name_is = a.2.name ∙ ap (λ (t : List ℕ). Some t) name; descriptor_is = a.2.descriptor ∙ ap (λ (t : List ℕ). Some t) descriptor },
          record { name_is = b.2.name; descriptor_is = b.2.descriptor },
        );
      })
