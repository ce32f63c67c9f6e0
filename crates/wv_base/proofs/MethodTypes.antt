-- Reading a method's type from its descriptor.
use Rattle.std.proofs.Common.{◌≡◌, ◌↔◌, ℕ, ◌+◌, ◌*◌, ◌<◌, ◌≤◌, List, [], ◌∷◌, ◌++◌, length, Option, Some, None, refl, sym, ap, subst, ◌∙◌, arith, append_assoc, lit<, lit≤, Bool, true, false, cond, replicate}
use Rattle.std.specs.Prelude.{codes, bytes_eq, ◌==◌, IfNone}
use Rattle.std.specs.Option.{option_map}
use Rattle.std.specs.List.{AllByRecursion, flat_map, sum_by}
use Rattle.std.proofs.lemmas.List.{append-nil, length-append}
use Rattle.std.proofs.lemmas.List.Sums.{sum_by_push}
use Rattle.std.proofs.lemmas.List.Concat.{flat_map-append}
use Rattle.wv_base.specs.declared.descriptor.TheConstants.{OPEN, CLOSE}
use Rattle.wv_base.specs.declared.descriptor.FieldType.{FieldType}
use Rattle.wv_base.specs.declared.descriptor.MethodType.{MethodType}
use Rattle.wv_base.specs.declared.grammar.TheConstants.{BRACKET}
use Rattle.wv_base.specs.declared.descriptor.Primitive.TheVariants.{Boolean, Byte, Char, Short, Int, Long, Float, Double}
use Rattle.wv_base.specs.declared.descriptor.ElementType.{ElementType}
use Rattle.wv_base.specs.declared.descriptor.ElementType.TheVariants as elements
use Rattle.wv_base.specs.Descriptor.{element_descriptor, element_words, descriptor_of, result_descriptor, method_descriptor_of, field_words, IsFieldType, IsFieldDescriptor, IsResult, IsMethodType, HasWords}
use Rattle.wv_base.specs.DescriptorReading.{element_at, field_at, IsParametersFront}
use Rattle.wv_base.proofs.FieldTypes.{some_is, IsFieldFront, field_again, field_found}

pub IfNone-from : {A : Type 0} {P : Type 0} (o : Option A) → P → IfNone o P
IfNone-from None p = p
IfNone-from (Some x) p = tt

-- ---- one type

-- units that begin as a type's descriptor does are read as that type
reads_field : (field : FieldType) (rest units : List ℕ) → IsFieldType field → units ≡ descriptor_of field ++ rest → field_at units ≡ Some (field, rest)
reads_field field rest units is e = rw e (field_again field rest is)

pub front_is : (units rest : List ℕ) (field : FieldType) → (field_at units ≡ Some (field, rest)) ↔ (IsFieldType field × (units ≡ descriptor_of field ++ rest))
front_is units rest field = (λ e. let front = field_found units (field, rest) e in (front.is, front.spelled), λ is. reads_field field rest units is.0 is.1)

field_cancel : (a b : FieldType) (x y : List ℕ) → IsFieldType a → IsFieldType b → descriptor_of a ++ x ≡ descriptor_of b ++ y → (a ≡ b) × (x ≡ y)
field_cancel a b x y is_a is_b e =
    let same : (a, x) ≡ (b, y) = some_is (a, x) (b, y) (sym (field_again a x is_a) ∙ reads_field b y (descriptor_of a ++ x) is_b e) in
    (ap (λ (p : FieldType × List ℕ). p.0) same, ap (λ (p : FieldType × List ℕ). p.1) same)

pub descriptor_cancel : (a b : FieldType) → IsFieldType a → IsFieldType b → descriptor_of a ≡ descriptor_of b → a ≡ b
descriptor_cancel a b is_a is_b e = (field_cancel a b [] [] is_a is_b (ap (λ (t : List ℕ). t ++ []) e)).0

-- what a test of the front says of the type that is read there
abbrev pub words_read : Option (FieldType × List ℕ) → Option (ℕ × List ℕ)
words_read read = option_map (λ x. (field_words x.0, x.1)) read

found_there : (words : ℕ) (after : List ℕ) (read : Option (FieldType × List ℕ)) → Some (words, after) ≡ words_read read → (found : FieldType × List ℕ) × (read ≡ Some found) × (words ≡ field_words found.0) × (after ≡ found.1)
found_there words after None e = absurd cc
found_there words after (Some found) e =
    let same : (words, after) ≡ (field_words found.0, found.1) = some_is _ _ e in
    (found, refl, ap (λ (p : ℕ × List ℕ). p.0) same, ap (λ (p : ℕ × List ℕ). p.1) same)

nothing_there : (read : Option (FieldType × List ℕ)) → None ≡ words_read read → read ≡ None
nothing_there None e = refl
nothing_there (Some found) e = absurd cc

pub field_is : (units : List ℕ) (words : ℕ) (after : List ℕ) → Some (words, after) ≡ words_read (field_at units) → (field : FieldType) × (words ≡ field_words field) × IsFieldFront units (field, after)
field_is units words after e =
    let found = found_there words after (field_at units) e in
    (found.0.0, found.2, subst (λ (t : List ℕ). IsFieldFront units (found.0.0, t)) (sym found.3) (field_found units found.0 found.1))

pub field_is_none : (units rest : List ℕ) (field : FieldType) → None ≡ words_read (field_at units) → IsFieldType field → units ≡ descriptor_of field ++ rest → ⊥
field_is_none units rest field e is spelled = absurd (cc (nothing_there (field_at units) e, reads_field field rest units is spelled))

pub ends_field : (units : List ℕ) (words : ℕ) (after : List ℕ) → Some (words, after) ≡ words_read (field_at units) → after ≡ [] → IsFieldDescriptor units
ends_field units words after e none =
    let found = field_is units words after e in
    (found.0, found.2.is, found.2.spelled ∙ ap (λ (t : List ℕ). descriptor_of found.0 ++ t) none ∙ append-nil (descriptor_of found.0))

pub is_ended : (units : List ℕ) (words : ℕ) (after : List ℕ) → Some (words, after) ≡ words_read (field_at units) → IsFieldDescriptor units → after ≡ []
is_ended units words after e is =
    let read = reads_field is.0 [] units is.1 (is.2 ∙ sym (append-nil (descriptor_of is.0))) in
    let found = found_there words after (field_at units) e in
    let same : found.0 ≡ (is.0, []) = some_is _ _ (sym found.1 ∙ read) in
    found.3 ∙ ap (λ (p : FieldType × List ℕ). p.1) same

-- ---- parameters

close_is_none : (rest : List ℕ) → field_at (CLOSE ∷ rest) ≡ None
unfolding field_at element_at
close_is_none rest = refl

element_few : (element : ElementType) → element_words element ≤ 2
element_few (elements.Primitive Boolean) = lit≤ tt
element_few (elements.Primitive Byte) = lit≤ tt
element_few (elements.Primitive Char) = lit≤ tt
element_few (elements.Primitive Short) = lit≤ tt
element_few (elements.Primitive Int) = lit≤ tt
element_few (elements.Primitive Long) = lit≤ tt
element_few (elements.Primitive Float) = lit≤ tt
element_few (elements.Primitive Double) = lit≤ tt
element_few (elements.Class name) = lit≤ tt

few_words : (field : FieldType) → field_words field ≤ 2
few_words field = go (field.dimensions == 0)
  where
    go : (alone : Bool) → cond alone (element_words field.element) 1 ≤ 2
    go true = element_few field.element
    go false = lit≤ tt

some_element : (element : ElementType) → 0 < length (element_descriptor element)
some_element (elements.Primitive Boolean) = lit< tt
some_element (elements.Primitive Byte) = lit< tt
some_element (elements.Primitive Char) = lit< tt
some_element (elements.Primitive Short) = lit< tt
some_element (elements.Primitive Int) = lit< tt
some_element (elements.Primitive Long) = lit< tt
some_element (elements.Primitive Float) = lit< tt
some_element (elements.Primitive Double) = lit< tt
some_element (elements.Class name) = omega arith

some_descriptor : (field : FieldType) → 0 < length (descriptor_of field)
some_descriptor field = omega (arith, some_element field.element, length-append (replicate field.dimensions BRACKET) (element_descriptor field.element))

-- the types that were read, their words, and what is left
pub record HasParameters (units : List ℕ) (fields : List FieldType) (rest : List ℕ) (words : ℕ) : Type 0 where
  pub each : AllByRecursion IsFieldType fields
  pub spelled : units ≡ flat_map descriptor_of fields ++ rest
  pub counted : words ≡ sum_by field_words fields
  pub bounded : words + 2 * length rest ≤ 2 * length units

each-append : (a b : List FieldType) → AllByRecursion IsFieldType a → AllByRecursion IsFieldType b → AllByRecursion IsFieldType (a ++ b)
each-append [] b is_a is_b = is_b
each-append (field ∷ a) b is_a is_b = (is_a.0, each-append a b is_a.1 is_b)

parameters_cancel : (fields others : List FieldType) (rest behind : List ℕ) → AllByRecursion IsFieldType fields → AllByRecursion IsFieldType others
    → flat_map descriptor_of fields ++ rest ≡ flat_map descriptor_of others ++ CLOSE ∷ behind → (left : List FieldType) × AllByRecursion IsFieldType left × (others ≡ fields ++ left) × (rest ≡ flat_map descriptor_of left ++ CLOSE ∷ behind)
parameters_cancel [] others rest behind is_fields is_others e = (others, is_others, refl, e)
parameters_cancel (a ∷ fields) [] rest behind is_fields is_others e =
    let read = reads_field a (flat_map descriptor_of fields ++ rest) (CLOSE ∷ behind) is_fields.0 (sym e ∙ append_assoc (descriptor_of a) (flat_map descriptor_of fields) rest) in
    absurd (cc (close_is_none behind, read))
parameters_cancel (a ∷ fields) (b ∷ others) rest behind is_fields is_others e =
    let here = field_cancel a b (flat_map descriptor_of fields ++ rest) (flat_map descriptor_of others ++ CLOSE ∷ behind) is_fields.0 is_others.0
    (sym (append_assoc (descriptor_of a) (flat_map descriptor_of fields) rest) ∙ e ∙ append_assoc (descriptor_of b) (flat_map descriptor_of others) (CLOSE ∷ behind)) in
    let next = parameters_cancel fields others rest behind is_fields.1 is_others.1 here.1 in
    (next.0, next.1, cc, next.3)

pub none_read : (units : List ℕ) → HasParameters units [] units 0
none_read units = record { each = tt; spelled = refl; counted = refl; bounded = omega arith }

pub closes : (units : List ℕ) (fields : List FieldType) (rest after : List ℕ) (words : ℕ) → HasParameters units fields rest words → rest ≡ CLOSE ∷ after → IsParametersFront units fields after
closes units fields rest after words has e = record { each = has.each; spelled = has.spelled ∙ ap (λ (t : List ℕ). flat_map descriptor_of fields ++ t) e }

-- where no type stands and no parenthesis, no parameters stand
pub fails : (units : List ℕ) (fields : List FieldType) (rest : List ℕ) (words : ℕ) → HasParameters units fields rest words → ((after : List ℕ) → rest ≡ CLOSE ∷ after → ⊥) → None ≡ words_read (field_at rest)
    → (others : List FieldType) (behind : List ℕ) → IsParametersFront units others behind → ⊥
fails units fields rest words has open' none others behind front =
    let left = parameters_cancel fields others rest behind has.each front.each (sym has.spelled ∙ front.spelled) in
    go left.0 left.1 left.3
  where
    go : (left : List FieldType) → AllByRecursion IsFieldType left → rest ≡ flat_map descriptor_of left ++ CLOSE ∷ behind → ⊥
    go [] is e = open' behind e
    go (field ∷ left) is e = field_is_none rest (flat_map descriptor_of left ++ CLOSE ∷ behind) field none is.0 (e ∙ append_assoc (descriptor_of field) (flat_map descriptor_of left) (CLOSE ∷ behind))

pub read_on : (units : List ℕ) (fields : List FieldType) (rest after : List ℕ) (words more : ℕ) → HasParameters units fields rest words → Some (more, after) ≡ words_read (field_at rest)
    → (field : FieldType) × HasParameters units (fields ++ field ∷ []) after (words + more) × (length after < length rest)
read_on units fields rest after words more has e =
    let found = field_is rest more after e in
    let field : FieldType = found.0 in
    let longer : 0 < length (descriptor_of field) = some_descriptor field in
    let cut : length rest ≡ length (descriptor_of field) + length after = ap length found.2.spelled ∙ length-append (descriptor_of field) after in
    let one : flat_map descriptor_of (fields ++ field ∷ []) ≡ flat_map descriptor_of fields ++ descriptor_of field =
    flat_map-append descriptor_of fields (field ∷ []) ∙ ap (λ (t : List ℕ). flat_map descriptor_of fields ++ t) (append-nil (descriptor_of field)) in (
      field,
      record {
        each = each-append fields (field ∷ []) has.each (found.2.is, tt);
        spelled = has.spelled ∙ ap (λ (t : List ℕ). flat_map descriptor_of fields ++ t) found.2.spelled ∙ sym (append_assoc (flat_map descriptor_of fields) (descriptor_of field) after) ∙ ap (λ (t : List ℕ). t ++ after) (sym one);
        counted = rw (sum_by_push field_words fields field, ← has.counted, ← found.1) refl;
        bounded = omega (arith, has.bounded, cut, longer, few_words field, found.1);
      },
      omega (arith, cut, longer),
    )

-- ---- methods

pub parameters_same : (units : List ℕ) (a b : List FieldType) (x y : List ℕ) → IsParametersFront units a x → IsParametersFront units b y → (a ≡ b) × (x ≡ y)
parameters_same units a b x y first second =
    let left = parameters_cancel a b (CLOSE ∷ x) y first.each second.each (sym first.spelled ∙ second.spelled) in
    go left.0 left.1 left.2 left.3
  where
    go : (left : List FieldType) → AllByRecursion IsFieldType left → b ≡ a ++ left → CLOSE ∷ x ≡ flat_map descriptor_of left ++ CLOSE ∷ y → (a ≡ b) × (x ≡ y)
    go [] is same e = (sym (same ∙ append-nil a), cc)
    go (field ∷ left) is same e =
        let read = reads_field field (flat_map descriptor_of left ++ CLOSE ∷ y) (CLOSE ∷ x) is.0 (e ∙ append_assoc (descriptor_of field) (flat_map descriptor_of left) (CLOSE ∷ y)) in
        absurd (cc (close_is_none x, read))

void_is_none : field_at (codes "V") ≡ None
unfolding field_at element_at
void_is_none = refl

result_cancel : (a b : Option FieldType) → IsResult a → IsResult b → result_descriptor a ≡ result_descriptor b → a ≡ b
result_cancel None None is_a is_b e = refl
result_cancel None (Some b) is_a is_b e = absurd (cc (void_is_none, reads_field b [] (codes "V") is_b (e ∙ sym (append-nil (descriptor_of b)))))
result_cancel (Some a) None is_a is_b e = absurd (cc (void_is_none, reads_field a [] (codes "V") is_a (sym e ∙ sym (append-nil (descriptor_of a)))))
result_cancel (Some a) (Some b) is_a is_b e = ap (λ (field : FieldType). Some field) (descriptor_cancel a b is_a is_b e)

-- what stands behind the first parenthesis of a method's descriptor
pub method_front : (rest : List ℕ) (method : MethodType) → IsMethodType method → OPEN ∷ rest ≡ method_descriptor_of method → IsParametersFront rest method.parameters (result_descriptor method.result)
method_front rest method is e = record { each = is.0; spelled = cc }

pub method_cancel : (a b : MethodType) → IsMethodType a → IsMethodType b → method_descriptor_of a ≡ method_descriptor_of b → a ≡ b
method_cancel a b is_a is_b e =
    let rest : List ℕ = flat_map descriptor_of a.parameters ++ CLOSE ∷ result_descriptor a.result in
    let same = parameters_same rest a.parameters b.parameters (result_descriptor a.result) (result_descriptor b.result) (method_front rest a is_a refl) (method_front rest b is_b e) in
    let results : a.result ≡ b.result = result_cancel a.result b.result is_a.1 is_b.1 same.1 in
    parts_same a.parameters b.parameters a.result b.result same.0 results
  where
    parts_same : (ps qs : List FieldType) (r s : Option FieldType) → ps ≡ qs → r ≡ s → ◌≡◌ {A = MethodType} (record { parameters = ps; result = r }) (record { parameters = qs; result = s })
    parts_same ps qs r s p e = cc

pub method_words_are : (rest after : List ℕ) (fields : List FieldType) (result : Option FieldType) (words : ℕ) → IsParametersFront rest fields after → IsResult result → after ≡ result_descriptor result → words ≡ sum_by field_words fields → HasWords (OPEN ∷ rest) words
method_words_are rest after fields result words front is e counted =
    (record { parameters = fields; result = result }, (front.each, is), ap (λ (t : List ℕ). OPEN ∷ t) (front.spelled ∙ ap (λ (t : List ℕ). flat_map descriptor_of fields ++ CLOSE ∷ t) e), counted)

pub no_field : (units : List ℕ) → None ≡ words_read (field_at units) → IsFieldDescriptor units → ⊥
no_field units none is = field_is_none units [] is.0 none is.1 (is.2 ∙ sym (append-nil (descriptor_of is.0)))

pub result_there : (units : List ℕ) → IsFieldDescriptor units → (result : Option FieldType) × IsResult result × (units ≡ result_descriptor result)
result_there units is = (Some is.0, is.1, is.2)

pub no_result : (units : List ℕ) → (units ≡ codes "V" → ⊥) → ((result : Option FieldType) × IsResult result × (units ≡ result_descriptor result)) → IsFieldDescriptor units
no_result units other (None, is, e) = absurd (other e)
no_result units other (Some field, is, e) = (field, is, e)

-- the test for a void result
pub not_void : (units void : List ℕ) → void ≡ codes "V" → false ≡ bytes_eq units void → units ≡ codes "V" → ⊥
not_void units void is other e =
    let same : bytes_eq units void ≡ true = rw (e, is) refl in
    absurd (cc (same, other))
