-- Reading a type from the front is the inverse of its descriptor.
use Rattle.std.proofs.Common.{◌≡◌, ℕ, zero, suc, ◌+◌, ◌<◌, ◌≤◌, Bool, true, false, cond, ltb, List, [], ◌∷◌, ◌++◌, length, take, drop, replicate, Option, Some, None, refl, sym, ap, ◌∙◌, inl, inr, arith, append_assoc, add-one, get_or}
use Rattle.std.specs.Prelude.{◌&&◌, ◌==◌, nat_lt, nat_le}
use Rattle.std.specs.Option.{option_map}
use Rattle.std.specs.List.{AllByRecursion, list_all, slice_split, onto_first, prefix_len, position_or_len}
use Rattle.std.proofs.lemmas.Bool.{cases_Bool, and_parts, eqb-true, leb-true, ltb-true, le-leb, lt-ltb}
use Rattle.std.proofs.lemmas.List.Sums.{split_at_first, passes_at_first}
use Rattle.std.proofs.lemmas.Bool.Decides.{nat_tests}
use Rattle.std.proofs.lemmas.List.{take_at, drop_at, take-append-drop, length-append, length-replicate}
use Rattle.std.proofs.Math.Numerals.{one-add}
use Rattle.wv_base.specs.declared.grammar.TheConstants.{SLASH, SEMICOLON, BRACKET}
use Rattle.wv_base.specs.declared.descriptor.TheConstants.{CLASS}
use Rattle.wv_base.specs.declared.descriptor.Primitive.{Primitive}
use Rattle.wv_base.specs.declared.descriptor.Primitive.TheVariants.{Boolean, Byte, Char, Short, Int, Long, Float, Double}
use Rattle.wv_base.specs.declared.descriptor.ElementType.{ElementType}
use Rattle.wv_base.specs.declared.descriptor.ElementType.TheVariants as elements
use Rattle.wv_base.specs.declared.descriptor.FieldType.{FieldType}
use Rattle.wv_base.specs.Names.{is_name_unit, is_unqualified, is_class_name}
use Rattle.wv_base.specs.Descriptor.{letters, element_descriptor, descriptor_of, IsElementType, IsFieldType}
use Rattle.wv_base.specs.DescriptorReading.{primitive_of, class_at, element_at, field_at}

pub some_is : {A : Type 0} (x y : A) → ◌≡◌ {A = Option A} (Some x) (Some y) → x ≡ y
some_is x y e = cc

test_passed : {A : Type 0} (b : Bool) (x y : A) → cond b (Some x) None ≡ Some y → (b ≡ true) × (x ≡ y)
test_passed true x y e = (refl, cc)
test_passed false x y e = absurd cc

then_passed : {A : Type 0} (b : Bool) (read : Option A) (y : A) → cond b read None ≡ Some y → (b ≡ true) × (read ≡ Some y)
then_passed true read y e = (refl, e)
then_passed false read y e = absurd cc

-- ---- a class name has no semicolon

abbrev HasNone : ℕ → List ℕ → Type 0
HasNone unit units = AllByRecursion (λ u. (u == unit) ≡ false) units

parts_are_units : (parts : List (List ℕ)) → list_all is_unqualified parts ≡ true → list_all (list_all is_name_unit) parts ≡ true
parts_are_units [] e = refl
parts_are_units (part ∷ parts) e =
    let both = and_parts (is_unqualified part) (list_all is_unqualified parts) e in
    let here = and_parts (nat_lt 0 (length part)) (list_all is_name_unit part) both.0 in
    rw (here.1, parts_are_units parts both.1) refl

slash_is_other : (unit : ℕ) → (unit == SLASH) ≡ true → (unit == SEMICOLON) ≡ false
slash_is_other unit e = grind (arith, nat_tests)

unit_is_other : (unit : ℕ) → is_name_unit unit ≡ true → (unit == SEMICOLON) ≡ false
unit_is_other unit e = grind (arith, nat_tests)

no_semicolon : (name : List ℕ) → list_all (list_all is_name_unit) (slice_split (λ u. u == SLASH) name) ≡ true → HasNone SEMICOLON name
no_semicolon [] e = tt
no_semicolon (unit ∷ rest) e = go (unit == SLASH) refl (λ h. no_semicolon rest h) (slice_split (λ u. u == SLASH) rest) refl e
  where
    go : (slash : Bool) → (unit == SLASH) ≡ slash → (list_all (list_all is_name_unit) (slice_split (λ u. u == SLASH) rest) ≡ true → HasNone SEMICOLON rest)
        → (parts : List (List ℕ)) → slice_split (λ u. u == SLASH) rest ≡ parts → list_all (list_all is_name_unit) (cond slash ([] ∷ parts) (onto_first unit parts)) ≡ true → HasNone SEMICOLON (unit ∷ rest)
    go true is behind parts split e = (slash_is_other unit is, behind (rw split e))
    go false is behind [] split e =
        let both = and_parts (is_name_unit unit && true) true e in
        (unit_is_other unit (and_parts (is_name_unit unit) true both.0).0, behind (rw split refl))
    go false is behind (part ∷ parts) split e =
        let both = and_parts (is_name_unit unit && list_all is_name_unit part) (list_all (list_all is_name_unit) parts) e in
        let here = and_parts (is_name_unit unit) (list_all is_name_unit part) both.0 in
        (unit_is_other unit here.0, behind (rw (split, here.1, both.1) refl))

class_has_none : (name : List ℕ) → is_class_name name ≡ true → HasNone SEMICOLON name
class_has_none name e = no_semicolon name (parts_are_units (slice_split (λ u. u == SLASH) name) e)

-- ---- the element

first_semicolon : (name rest : List ℕ) → HasNone SEMICOLON name → position_or_len (λ u. u == SEMICOLON) (name ++ SEMICOLON ∷ rest) ≡ length name
first_semicolon [] rest none = refl
first_semicolon (unit ∷ name) rest none =
    let behind = first_semicolon name rest none.1 in
    rw none.0 (omega (arith, behind))

behind_semicolon : (name rest : List ℕ) → drop (suc (length name)) (name ++ SEMICOLON ∷ rest) ≡ rest
behind_semicolon [] rest = refl
behind_semicolon (unit ∷ name) rest = behind_semicolon name rest

class_again : (name rest : List ℕ) → is_class_name name ≡ true → class_at (name ++ SEMICOLON ∷ rest) ≡ Some (name, rest)
unfolding class_at
class_again name rest is =
    let shorter : ltb (length name) (length (name ++ SEMICOLON ∷ rest)) ≡ true = lt-ltb _ _ (omega (arith, length-append name (SEMICOLON ∷ rest))) in
    rw (first_semicolon name rest (class_has_none name is), shorter, take_at name (SEMICOLON ∷ rest) (length name) refl, is, add-one, behind_semicolon name rest) refl

class_found : (units : List ℕ) (found : List ℕ × List ℕ) → class_at units ≡ Some found → (is_class_name found.0 ≡ true) × (units ≡ found.0 ++ SEMICOLON ∷ found.1)
unfolding class_at
class_found units found e =
    let end : ℕ = position_or_len (λ u. u == SEMICOLON) units in
    let passed = test_passed (nat_lt end (length units) && is_class_name (take end units)) (take end units, drop (end + 1) units) found e in
    let both = and_parts (nat_lt end (length units)) (is_class_name (take end units)) passed.0 in
    let shorter : end < length units = ltb-true _ _ both.0 in
    let semicolon : get_or units end 0 ≡ SEMICOLON = eqb-true _ _ (passes_at_first (λ u. u == SEMICOLON) units 0 shorter) in
    let cut : units ≡ take end units ++ (get_or units end 0 ∷ drop (end + 1) units) = split_at_first (λ u. u == SEMICOLON) units 0 shorter in
    rw (← passed.1) (both.1, cut ∙ ap (λ (x : ℕ). take end units ++ (x ∷ drop (end + 1) units)) semicolon)

pub element_again : (element : ElementType) (rest : List ℕ) → IsElementType element → element_at (element_descriptor element ++ rest) ≡ Some (element, rest)
unfolding element_at
element_again (elements.Primitive Boolean) rest is = refl
element_again (elements.Primitive Byte) rest is = refl
element_again (elements.Primitive Char) rest is = refl
element_again (elements.Primitive Short) rest is = refl
element_again (elements.Primitive Int) rest is = refl
element_again (elements.Primitive Long) rest is = refl
element_again (elements.Primitive Float) rest is = refl
element_again (elements.Primitive Double) rest is = refl
element_again (elements.Class name) rest is =
    rw (append_assoc name (SEMICOLON ∷ []) rest, class_again name rest is) refl

primitive_found : (letter : ℕ) (primitive : Primitive) → primitive_of letter ≡ Some primitive → letter ∷ [] ≡ letters primitive
primitive_found letter primitive e = grind (arith, nat_tests)

-- what stands at the front, and is a type's descriptor
abbrev pub IsElementFront : List ℕ → ElementType × List ℕ → Type 0
IsElementFront units found = IsElementType found.0 × (units ≡ element_descriptor found.0 ++ found.1)

class_front : (rest : List ℕ) (read : Option (List ℕ × List ℕ)) (found : ElementType × List ℕ) → class_at rest ≡ read → option_map (λ x. (elements.Class x.0, x.1)) read ≡ Some found → IsElementFront (CLASS ∷ rest) found
class_front rest None found is e = absurd cc
class_front rest (Some x) found is e =
    let class = class_found rest x is in
    let same : (elements.Class x.0, x.1) ≡ found = some_is _ _ e in
    rw (← same) (class.0, rw class.1 (ap (λ (t : List ℕ). CLASS ∷ t) (sym (append_assoc x.0 (SEMICOLON ∷ []) x.1))))

primitive_front : (first : ℕ) (rest : List ℕ) (read : Option Primitive) (found : ElementType × List ℕ) → primitive_of first ≡ read → option_map (λ x. (elements.Primitive x, rest)) read ≡ Some found → IsElementFront (first ∷ rest) found
primitive_front first rest None found is e = absurd cc
primitive_front first rest (Some x) found is e =
    let same : (elements.Primitive x, rest) ≡ found = some_is _ _ e in
    rw (← same) (tt, ap (λ (t : List ℕ). t ++ rest) (primitive_found first x is))

pub element_found : (units : List ℕ) (found : ElementType × List ℕ) → element_at units ≡ Some found → IsElementFront units found
unfolding element_at
element_found [] found e = absurd cc
element_found (first ∷ rest) found e =
    elim (cases_Bool (first == CLASS)) [
      | inl class ↦
          let is : first ≡ CLASS = eqb-true first CLASS class in
          rw is (class_front rest (class_at rest) found refl (rw class at e))
      | inr other ↦ primitive_front first rest (primitive_of first) found refl (rw other at e)
    ]

-- ---- the dimensions

no_bracket : (element : ElementType) (rest : List ℕ) → prefix_len (λ u. u == BRACKET) (element_descriptor element ++ rest) ≡ 0
no_bracket (elements.Primitive Boolean) rest = refl
no_bracket (elements.Primitive Byte) rest = refl
no_bracket (elements.Primitive Char) rest = refl
no_bracket (elements.Primitive Short) rest = refl
no_bracket (elements.Primitive Int) rest = refl
no_bracket (elements.Primitive Long) rest = refl
no_bracket (elements.Primitive Float) rest = refl
no_bracket (elements.Primitive Double) rest = refl
no_bracket (elements.Class name) rest = refl

brackets : (count : ℕ) (rest : List ℕ) → prefix_len (λ u. u == BRACKET) rest ≡ 0 → prefix_len (λ u. u == BRACKET) (replicate count BRACKET ++ rest) ≡ count
brackets zero rest none = none
brackets (suc count) rest none = let behind = brackets count rest none in omega (arith, behind)

take_brackets : (units : List ℕ) → replicate (prefix_len (λ u. u == BRACKET) units) BRACKET ≡ take (prefix_len (λ u. u == BRACKET) units) units
take_brackets [] = refl
take_brackets (unit ∷ rest) = go (unit == BRACKET) refl (take_brackets rest)
  where
    go : (bracket : Bool) → (unit == BRACKET) ≡ bracket → replicate (prefix_len (λ u. u == BRACKET) rest) BRACKET ≡ take (prefix_len (λ u. u == BRACKET) rest) rest
        → replicate (cond bracket (1 + prefix_len (λ u. u == BRACKET) rest) 0) BRACKET ≡ take (cond bracket (1 + prefix_len (λ u. u == BRACKET) rest) 0) (unit ∷ rest)
    go true is behind = rw (one-add, eqb-true unit BRACKET is) (ap (λ (t : List ℕ). BRACKET ∷ t) behind)
    go false is behind = refl

-- ---- the whole

-- what stands at the front, and is a type's descriptor
pub record IsFieldFront (units : List ℕ) (found : FieldType × List ℕ) : Type 0 where
  pub is : IsFieldType found.0
  pub spelled : units ≡ descriptor_of found.0 ++ found.1

pub field_again : (field : FieldType) (rest : List ℕ) → IsFieldType field → field_at (descriptor_of field ++ rest) ≡ Some (field, rest)
unfolding field_at
field_again field rest is =
    let count : ℕ = field.dimensions in
    let behind : List ℕ = element_descriptor field.element ++ rest in
    let counted : prefix_len (λ u. u == BRACKET) (replicate count BRACKET ++ behind) ≡ count = brackets count behind (no_bracket field.element rest) in
    let dropped : drop count (replicate count BRACKET ++ behind) ≡ behind = drop_at (replicate count BRACKET) behind count (length-replicate count BRACKET) in
    rw (append_assoc (replicate count BRACKET) (element_descriptor field.element) rest, counted, le-leb count 255 is.0, dropped, element_again field.element rest is.1) refl

element_front : (dimensions : ℕ) (units : List ℕ) (read : Option (ElementType × List ℕ)) (found : FieldType × List ℕ) → dimensions ≤ 255 → units ≡ replicate dimensions BRACKET ++ drop dimensions units → element_at (drop dimensions units) ≡ read
    → option_map (λ x. (record { element = x.0; dimensions = dimensions }, x.1)) read ≡ Some found → IsFieldFront units found
element_front dimensions units None found fits cut is e = absurd cc
element_front dimensions units (Some x) found fits cut is e =
    let front = element_found (drop dimensions units) x is in
    let same : (record { element = x.0; dimensions = dimensions }, x.1) ≡ found = some_is _ _ e in
    rw (← same) (record {
      is = (fits, front.0);
      spelled = cut ∙ ap (λ (t : List ℕ). replicate dimensions BRACKET ++ t) front.1 ∙ sym (append_assoc (replicate dimensions BRACKET) (element_descriptor x.0) x.1);
    })

pub field_found : (units : List ℕ) (found : FieldType × List ℕ) → field_at units ≡ Some found → IsFieldFront units found
unfolding field_at
field_found units found e =
    let dimensions : ℕ = prefix_len (λ u. u == BRACKET) units in
    let passed = then_passed (nat_le dimensions 255) (option_map (λ x. (record { element = x.0; dimensions = dimensions }, x.1)) (element_at (drop dimensions units))) found e in
    let cut : units ≡ replicate dimensions BRACKET ++ drop dimensions units = sym (take-append-drop dimensions units) ∙ ap (λ (t : List ℕ). t ++ drop dimensions units) (sym (take_brackets units)) in
    element_front dimensions units (element_at (drop dimensions units)) found (leb-true dimensions 255 passed.0) cut refl passed.1
