-- What reading from the front says of the whole descriptor.
use Rattle.std.proofs.Common.{◌≡◌, ℕ, ◌+◌, ◌<◌, true, false, List, [], ◌∷◌, ◌++◌, length, Option, Some, None, Ok, Err, Result, refl, sym, ap, subst, ◌∙◌, eq-eqb, append_assoc}
use Rattle.std.specs.Prelude.{◌==◌, IfOk, IfSome, IfNone}
use Rattle.std.specs.List.{AllByRecursion, flat_map, sum_by}
use Rattle.std.proofs.lemmas.List.{append-nil}
use Rattle.std.proofs.lemmas.List.Sums.{sum_by_push}
use Rattle.std.proofs.lemmas.List.Concat.{flat_map-append}
use Rattle.wv_base.specs.declared.descriptor.FieldType.{FieldType}
use Rattle.wv_base.specs.declared.descriptor.MethodType.{MethodType}
use Rattle.wv_base.specs.Descriptor.{descriptor_of, result_descriptor, field_words, IsFieldType, IsFieldDescriptor, IsMethodDescriptor}
use Rattle.wv_base.specs.DescriptorReading.{field_at, IsParametersFront}
use Rattle.wv_base.proofs.FieldTypes.{some_is}
use Rattle.wv_base.proofs.MethodTypes.{front_is, words_read, none_read, descriptor_cancel, method_cancel, HasParameters, read_on, closes, fails, method_front, parameters_same}
use Rattle.wv_desc.specs.declared.method.TheConstants.{OPEN, CLOSE}
use Rattle.wv_desc.specs.TypeOf.{IsFieldTypeOf, IsMethodTypeOf, HasResult}

-- ---- one type

pub whole_is : (units rest : List ℕ) (field : FieldType) → Some (field, rest) ≡ field_at units → rest ≡ [] → IsFieldTypeOf units field
whole_is units rest field read empty =
    let is = (front_is units rest field).0 (sym read) in
    (is.0, is.1 ∙ ap (λ (t : List ℕ). descriptor_of field ++ t) empty ∙ append-nil (descriptor_of field))

reads_whole : (units : List ℕ) (field : FieldType) → IsFieldTypeOf units field → field_at units ≡ Some (field, [])
reads_whole units field is = (front_is units [] field).1 (is.0, is.1 ∙ sym (append-nil (descriptor_of field)))

pub nothing_whole : (units : List ℕ) → None ≡ field_at units → IsFieldDescriptor units → ⊥
nothing_whole units none is = absurd (cc (none, reads_whole units is.0 (is.1, is.2)))

pub more_behind : (units rest : List ℕ) (field : FieldType) → Some (field, rest) ≡ field_at units → false ≡ (length rest == 0) → IsFieldDescriptor units → ⊥
more_behind units rest field read more is =
    let same : (field, rest) ≡ (is.0, []) = some_is (field, rest) (is.0, []) (read ∙ reads_whole units is.0 (is.1, is.2)) in
    ends_not more (eq-eqb (length rest) 0 (ap (λ (p : FieldType × List ℕ). length p.1) same))
  where
    ends_not : false ≡ (length rest == 0) → (length rest == 0) ≡ true → ⊥
    ends_not is_not is = absurd (cc (is_not, is))

pub only_field : {E : Type 0} (units : List ℕ) (read : Result (Option FieldType) E) → IfOk read (λ r. IfSome r (IsFieldTypeOf units)) → IfOk read (λ r. IfNone r (IsFieldDescriptor units → ⊥))
    → IfOk read (λ r. (field : FieldType) → IsFieldTypeOf units field → r ≡ Some field)
only_field units (Ok None) found none = λ field is. absurd (none (field, is.0, is.1))
only_field units (Ok (Some a)) found none = λ field is. ap (λ (f : FieldType). Some f) (descriptor_cancel a field found.0 is.0 (sym found.1 ∙ is.1))
only_field units (Err e) found none = tt

pub only_method : {E : Type 0} (units : List ℕ) (read : Result (Option MethodType) E) → IfOk read (λ r. IfSome r (IsMethodTypeOf units)) → IfOk read (λ r. IfNone r (IsMethodDescriptor units → ⊥))
    → IfOk read (λ r. (method : MethodType) → IsMethodTypeOf units method → r ≡ Some method)
only_method units (Ok None) found none = λ method is. absurd (none (method, is.0, is.1))
only_method units (Ok (Some a)) found none = λ method is. ap (λ (f : MethodType). Some f) (method_cancel a method found.0 is.0 (sym found.1 ∙ is.1))
only_method units (Err e) found none = tt

-- ---- parameters

-- the parameters that were read behind the first parenthesis, and what is left
pub record HasRead (units : List ℕ) (fields : List FieldType) (rest : List ℕ) : Type 0 where
  pub front : List ℕ
  pub begun : units ≡ OPEN ∷ front
  pub parameters : HasParameters front fields rest (sum_by field_words fields)

pub none_read_yet : (units rest : List ℕ) → units ≡ OPEN ∷ rest → HasRead units [] rest
none_read_yet units rest begun = record { front = rest; begun = begun; parameters = none_read rest }

each-append : (fields : List FieldType) (field : FieldType) → AllByRecursion IsFieldType fields → IsFieldType field → AllByRecursion IsFieldType (fields ++ field ∷ [])
each-append [] field are is = (is, tt)
each-append (first ∷ fields) field are is = (are.0, each-append fields field are.1 is)

pub read_one_more : (units : List ℕ) (fields : List FieldType) (rest after : List ℕ) (field : FieldType) → HasRead units fields rest → Some (field, after) ≡ field_at rest
    → HasRead units (fields ++ field ∷ []) after × (length after < length rest)
read_one_more units fields rest after field has read =
    let words : ℕ = sum_by field_words fields in
    let told : Some (field_words field, after) ≡ words_read (field_at rest) = ap words_read read in
    let on = read_on has.front fields rest after words (field_words field) has.parameters told in
    let is = (front_is rest after field).0 (sym read) in
    let one : flat_map descriptor_of (fields ++ field ∷ []) ≡ flat_map descriptor_of fields ++ descriptor_of field =
    flat_map-append descriptor_of fields (field ∷ []) ∙ ap (λ (t : List ℕ). flat_map descriptor_of fields ++ t) (append-nil (descriptor_of field)) in
    let counted : sum_by field_words (fields ++ field ∷ []) ≡ words + field_words field = sum_by_push field_words fields field in (
      record {
        front = has.front;
        begun = has.begun;
        parameters = record {
          each = each-append fields field has.parameters.each is.0;
          spelled = has.parameters.spelled ∙ ap (λ (t : List ℕ). flat_map descriptor_of fields ++ t) is.1 ∙ sym (append_assoc (flat_map descriptor_of fields) (descriptor_of field) after) ∙ ap (λ (t : List ℕ). t ++ after) (sym one);
          counted = refl;
          bounded = rw counted on.1.bounded;
        };
      },
      on.2,
    )

-- ---- methods

ends : (units : List ℕ) (fields : List FieldType) (rest after : List ℕ) (has : HasRead units fields rest) → rest ≡ CLOSE ∷ after → IsParametersFront has.front fields after
ends units fields rest after has closed = closes has.front fields rest after (sum_by field_words fields) has.parameters closed

method_is : (units after : List ℕ) (fields : List FieldType) (has : HasRead units fields (CLOSE ∷ after)) (method : MethodType) → method.parameters ≡ fields → HasResult after method.result → IsMethodTypeOf units method
method_is units after fields has method same result =
    let front : IsParametersFront has.front method.parameters after = rw same (ends units fields (CLOSE ∷ after) after has refl) in (
      (front.each, result.0),
      has.begun ∙ ap (λ (t : List ℕ). OPEN ∷ t) (front.spelled ∙ ap (λ (t : List ℕ). flat_map descriptor_of method.parameters ++ CLOSE ∷ t) result.1),
    )

behind_first : (units front : List ℕ) (method : MethodType) → IsMethodTypeOf units method → units ≡ OPEN ∷ front → IsParametersFront front method.parameters (result_descriptor method.result)
behind_first units front method is begun = method_front front method is.0 (sym begun ∙ is.1)

pub not_begun : (units : List ℕ) → ((rest : List ℕ) → units ≡ OPEN ∷ rest → ⊥) → IsMethodDescriptor units → ⊥
not_begun units other is = other (flat_map descriptor_of is.0.parameters ++ CLOSE ∷ result_descriptor is.0.result) is.2

pub no_parameter : (units : List ℕ) (fields : List FieldType) (rest : List ℕ) → HasRead units fields rest → ((after : List ℕ) → rest ≡ CLOSE ∷ after → ⊥) → None ≡ field_at rest → IsMethodDescriptor units → ⊥
no_parameter units fields rest has other none is =
    fails has.front fields rest (sum_by field_words fields) has.parameters other (ap words_read none) is.0.parameters (result_descriptor is.0.result) (behind_first units has.front is.0 (is.1, is.2) has.begun)

pub found_method : {E : Type 0} (units rest after : List ℕ) (fields : List FieldType) (read : Result (Option MethodType) E) → HasRead units fields rest → rest ≡ CLOSE ∷ after
    → IfOk read (λ r. IfSome r (λ method. (method.parameters ≡ fields) × HasResult after method.result)) → IfOk read (λ r. IfSome r (IsMethodTypeOf units))
found_method units rest after fields (Ok None) has closed found = tt
found_method units rest after fields (Ok (Some method)) has closed found = method_is units after fields (subst (λ (t : List ℕ). HasRead units fields t) closed has) method found.0 found.1
found_method units rest after fields (Err e) has closed found = tt

pub no_method : {E : Type 0} (units rest after : List ℕ) (fields : List FieldType) (read : Result (Option MethodType) E) → HasRead units fields rest → rest ≡ CLOSE ∷ after
    → IfOk read (λ r. IfNone r ((result : Option FieldType) → HasResult after result → ⊥)) → IfOk read (λ r. IfNone r (IsMethodDescriptor units → ⊥))
no_method units rest after fields (Ok None) has closed none = λ is.
    let same = parameters_same has.front fields is.0.parameters after (result_descriptor is.0.result) (ends units fields rest after has closed) (behind_first units has.front is.0 (is.1, is.2) has.begun) in
    none is.0.result (is.1.1, same.1)
no_method units rest after fields (Ok (Some method)) has closed none = tt
no_method units rest after fields (Err e) has closed none = tt
