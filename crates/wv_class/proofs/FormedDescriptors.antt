-- Whether a text is a descriptor or the name in a Class constant is decided.
use Rattle.std.proofs.Common.{◌≡◌, ℕ, zero, suc, ◌+◌, ◌<◌, ◌≤◌, Bool, true, false, List, [], ◌∷◌, ◌++◌, length, Option, Some, None, Ok, refl, sym, ap, ◌∙◌, inl, inr, ◌⊎◌, arith}
use Rattle.std.specs.Prelude.{IsTrue, codes, bytes_eq}
use Rattle.std.proofs.lemmas.Bool.{cases_eq, cases_lt}
use Rattle.std.proofs.lemmas.List.{append-nil}
use Rattle.std.proofs.lemmas.Slice.Eq.{bytes_eq-Decides}
use Rattle.wv_base.specs.declared.class_file.PoolEntry.{PoolEntry}
use Rattle.wv_base.specs.declared.class_file.PoolEntry.TheVariants as entries
use Rattle.wv_base.specs.declared.descriptor.FieldType.{FieldType}
use Rattle.wv_base.specs.declared.descriptor.MethodType.{MethodType}
use Rattle.wv_base.specs.Names.{is_class_name}
use Rattle.wv_base.specs.Descriptor.{descriptor_of, IsFieldType, IsFieldDescriptor, IsClassConstant, IsMethodDescriptor}
use Rattle.wv_base.specs.DescriptorReading.{field_at}
use Rattle.wv_base.proofs.MethodTypes.{front_is, descriptor_cancel, no_result}
use Rattle.wv_desc.specs.TypeOf.{IsMethodTypeOf, HasResult}
use Rattle.wv_desc.proofs.Reading.{HasRead, whole_is, nothing_whole, none_read_yet, read_one_more, not_begun, no_parameter, found_method, no_method}
use Rattle.wv_attr.specs.Types.{IsTextType, IsEntryType, AreTypes}
use Rattle.wv_class.proofs.MeaningParts.{Stable}

-- ---- what is so or not so

abbrev pub Decided : Type 0 → Type 0
Decided A = A ⊎ (A → ⊥)

pub decided_stable : {A : Type 0} → Decided A → Stable A
decided_stable (inl a) h = a
decided_stable (inr none) h = absurd (h none)

pub either_decided : {A B : Type 0} → Decided A → Decided B → Decided (A ⊎ B)
either_decided (inl a) b = inl (inl a)
either_decided (inr none) (inl b) = inl (inr b)
either_decided (inr none) (inr neither) = inr (λ h. elim h [ inl a ↦ none a | inr b ↦ neither b ])

pub both_stable : {A B : Type 0} → Stable A → Stable B → Stable (A × B)
both_stable a b h = (a (λ no. h (λ p. no p.0)), b (λ no. h (λ p. no p.1)))

pub three_stable : {A B C : Type 0} → Stable A → Stable B → Stable C → Stable (A × B × C)
three_stable a b c h = (a (λ no. h (λ p. no p.0)), b (λ no. h (λ p. no p.1)), c (λ no. h (λ p. no p.2)))

pub four_stable : {A B C D : Type 0} → Stable A → Stable B → Stable C → Stable D → Stable (A × B × C × D)
four_stable a b c d h = (a (λ no. h (λ p. no p.0)), b (λ no. h (λ p. no p.1)), c (λ no. h (λ p. no p.2)), d (λ no. h (λ p. no p.3)))

pub not_stable : {A : Type 0} → Stable (A → ⊥)
not_stable h a = h (λ no. no a)

pub then_stable : {A B : Type 0} → Stable B → Stable (A → B)
then_stable s h a = s (λ no. h (λ f. no (f a)))

false_is : false ≡ true → ⊥
false_is e = cc

pub truth_decided : (b : Bool) → Decided (IsTrue b)
truth_decided true = inl refl
truth_decided false = inr false_is

pub text_decided : (a b : List ℕ) → Decided (a ≡ b)
text_decided a b = go (bytes_eq a b) refl
  where
    go : (r : Bool) → bytes_eq a b ≡ r → Decided (a ≡ b)
    go true e = inl ((bytes_eq-Decides a b).0 e)
    go false e = inr (λ same. false_is (sym e ∙ (bytes_eq-Decides a b).1 same))

pub le_decided : (m n : ℕ) → Decided (m ≤ n)
le_decided m n = elim (cases_lt n m) [ inl lt ↦ inr (λ le. omega (arith, lt, le)) | inr le ↦ inl le ]

-- ---- fields

pub field_decided : (units : List ℕ) → Decided (IsFieldDescriptor units)
field_decided units = go (field_at units) refl
  where
    reads : (is : IsFieldDescriptor units) → field_at units ≡ Some (is.0, [])
    reads is = (front_is units [] is.0).1 (is.1, is.2 ∙ sym (append-nil (descriptor_of is.0)))

    cons_is : (x : ℕ) (rest : List ℕ) → x ∷ rest ≡ [] → ⊥
    cons_is x rest e = cc

    differ : (field other : FieldType) (x : ℕ) (rest : List ℕ) → ◌≡◌ {A = Option (FieldType × List ℕ)} (Some (field, x ∷ rest)) (Some (other, [])) → ⊥
    differ field other x rest e =
        let same : (field, x ∷ rest) ≡ (other, []) = cc in
        cons_is x rest (ap (λ (p : FieldType × List ℕ). p.1) same)

    go : (read : Option (FieldType × List ℕ)) → read ≡ field_at units → Decided (IsFieldDescriptor units)
    go None e = inr (nothing_whole units e)
    go (Some (field, [])) e = let w = whole_is units [] field e refl in inl (field, w.0, w.1)
    go (Some (field, x ∷ rest)) e = inr (λ is. differ field is.0 x rest (e ∙ reads is))

abbrev IsArray : List ℕ → Type 0
IsArray units = (field : FieldType) × IsFieldType field × (0 < field.dimensions) × (units ≡ descriptor_of field)

array_decided : (units : List ℕ) → Decided (IsArray units)
array_decided units = go (field_decided units)
  where
    go : Decided (IsFieldDescriptor units) → Decided (IsArray units)
    go (inr none) = inr (λ a. none (a.0, a.1, a.3))
    go (inl is) = elim (cases_lt 0 is.0.dimensions) [
      | inl lt ↦ inl (is.0, is.1, lt, is.2)
      | inr le ↦ inr (λ a.
          let same = ap (λ (f : FieldType). f.dimensions) (descriptor_cancel is.0 a.0 is.1 a.1 (sym is.2 ∙ a.3)) in
          let some = a.2 in
          omega (arith, le, same, some))
    ]

pub class_decided : (units : List ℕ) → Decided (IsClassConstant units)
class_decided units = either_decided (truth_decided (is_class_name units)) (array_decided units)

-- ---- methods

-- ( and )
abbrev OPEN : ℕ
OPEN = 40

abbrev CLOSE : ℕ
CLOSE = 41

abbrev HasSomeResult : List ℕ → Type 0
HasSomeResult after = (result : Option FieldType) × HasResult after result

result_decided : (after : List ℕ) → Decided (HasSomeResult after)
result_decided after = go (text_decided after (codes "V")) (field_decided after)
  where
    go : Decided (after ≡ codes "V") → Decided (IsFieldDescriptor after) → Decided (HasSomeResult after)
    go (inl void) field = inl (None, (tt, void))
    go (inr other) (inl is) = inl (Some is.0, (is.1, is.2))
    go (inr other) (inr none) = inr (λ r. none (no_result after other (r.0, r.1.0, r.1.1)))

ended_decided : (units rest after : List ℕ) (fields : List FieldType) → HasRead units fields rest → rest ≡ CLOSE ∷ after → Decided (IsMethodDescriptor units)
ended_decided units rest after fields has closed = go (result_decided after)
  where
    go : Decided (HasSomeResult after) → Decided (IsMethodDescriptor units)
    go (inl r) =
        let method : MethodType = record { parameters = fields; result = r.0 } in
        let is : IsMethodTypeOf units method = found_method {E = Unit {0}} units rest after fields (Ok (Some method)) has closed (refl, r.1) in
        inl (method, is.0, is.1)
    go (inr none) = inr (no_method {E = Unit {0}} units rest after fields (Ok None) has closed (λ result is. none (result, is)))

nil_is : (x : ℕ) (rest : List ℕ) → [] ≡ x ∷ rest → ⊥
nil_is x rest e = cc

first_is : (a b : ℕ) (xs ys : List ℕ) → a ∷ xs ≡ b ∷ ys → a ≡ b
first_is a b xs ys e = cc

closed_or : (rest : List ℕ) → ((after : List ℕ) × (rest ≡ CLOSE ∷ after)) ⊎ ((after : List ℕ) → rest ≡ CLOSE ∷ after → ⊥)
closed_or [] = inr (λ after e. nil_is CLOSE after e)
closed_or (unit ∷ after) = elim (cases_eq unit CLOSE) [
  | inl e ↦ inl (after, ap (λ (u : ℕ). u ∷ after) e)
  | inr other ↦ inr (λ behind e. other (first_is unit CLOSE after behind e))
]

parameters_decided : (units : List ℕ) (fuel : ℕ) (fields : List FieldType) (rest : List ℕ) → HasRead units fields rest → length rest < fuel → Decided (IsMethodDescriptor units)
parameters_decided units zero fields rest has lt = absurd (omega (arith, lt))
parameters_decided units (suc fuel) fields rest has lt = go (λ more after read short. parameters_decided units fuel more after read short) (closed_or rest) (field_at rest) refl
  where
    go : ((more : List FieldType) (after : List ℕ) → HasRead units more after → length after < fuel → Decided (IsMethodDescriptor units))
        → ((after : List ℕ) × (rest ≡ CLOSE ∷ after)) ⊎ ((after : List ℕ) → rest ≡ CLOSE ∷ after → ⊥) → (read : Option (FieldType × List ℕ)) → read ≡ field_at rest → Decided (IsMethodDescriptor units)
    go on (inl closed) read e = ended_decided units rest closed.0 fields has closed.1
    go on (inr other) None e = inr (no_parameter units fields rest has other e)
    go on (inr other) (Some (field, after)) e =
        let r = read_one_more units fields rest after field has e in
        let shorter = r.1 in
        on (fields ++ field ∷ []) after r.0 (omega (arith, shorter, lt))

pub method_decided : (units : List ℕ) → Decided (IsMethodDescriptor units)
method_decided [] = inr (not_begun [] (λ rest e. nil_is OPEN rest e))
method_decided (unit ∷ rest) = elim (cases_eq unit OPEN) [
  | inl e ↦ parameters_decided (unit ∷ rest) (length rest + 1) [] rest (none_read_yet (unit ∷ rest) rest (ap (λ (u : ℕ). u ∷ rest) e)) (omega arith)
  | inr other ↦ inr (not_begun (unit ∷ rest) (λ behind e. other (first_is unit OPEN rest behind e)))
]

-- ---- the types of a pool's texts

text_type : (text : List ℕ) → (type : Option FieldType) × IsTextType text type
text_type text = go (field_decided text)
  where
    go : Decided (IsFieldDescriptor text) → (type : Option FieldType) × IsTextType text type
    go (inl is) = (Some is.0, record { found = (is.1, is.2); only = λ field of. ap (λ (f : FieldType). Some f) (descriptor_cancel is.0 field is.1 of.0 (sym is.2 ∙ of.1)) })
    go (inr none) = (None, record { found = tt; only = λ field of. absurd (none (field, of.0, of.1)) })

entry_type : (entry : PoolEntry) → (type : Option FieldType) × IsEntryType entry type
entry_type (entries.Utf8 text) = text_type text
entry_type (entries.Integer v) = (None, refl)
entry_type (entries.Float v) = (None, refl)
entry_type (entries.Long v) = (None, refl)
entry_type (entries.Double v) = (None, refl)
entry_type (entries.Class n) = (None, refl)
entry_type (entries.String n) = (None, refl)
entry_type (entries.Field m n) = (None, refl)
entry_type (entries.Method m n) = (None, refl)
entry_type (entries.InterfaceMethod m n) = (None, refl)
entry_type (entries.NameAndType m n) = (None, refl)
entry_type (entries.MethodHandle m n) = (None, refl)
entry_type (entries.MethodType n) = (None, refl)
entry_type (entries.InvokeDynamic m n) = (None, refl)
entry_type entries.Unusable = (None, refl)

pub types_there : (pool : List PoolEntry) → (types : List (Option FieldType)) × AreTypes pool types
types_there [] = ([], tt)
types_there (entry ∷ pool) =
    let one = entry_type entry in
    let others = types_there pool in
    (one.0 ∷ others.0, (one.1, others.1))
