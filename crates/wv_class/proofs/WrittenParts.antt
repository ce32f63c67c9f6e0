-- Attributes that were written one behind the other, as they are read again.
use Rattle.std.proofs.Common.{◌≡◌, ℕ, zero, suc, ◌+◌, ◌-◌, ◌≤◌, List, [], ◌∷◌, ◌++◌, length, take, Some, refl, ap, subst, inl, inr, arith}
use Rattle.std.specs.Prelude.{slice_get, if◌then◌else◌, IsTrue}
use Rattle.std.specs.List.{AllByRecursion, flat_map}
use Rattle.std.proofs.lemmas.List.{length-append}
use Rattle.std.proofs.lemmas.List.Sums.{sum_by-cons}
use Rattle.wv_base.specs.declared.class_file.PoolEntry.{PoolEntry}
use Rattle.wv_base.specs.declared.class_file.Attribute.{Attribute}
use Rattle.wv_base.specs.declared.note.Note.{Note}
use Rattle.wv_code.specs.declared.raw_body.RawBody.{RawBody}
use Rattle.wv_class.specs.declared.raw_class.Place.{Place}
use Rattle.wv_class.specs.declared.raw_class.Content.{Content}
use Rattle.wv_class.specs.declared.raw_class.Content.TheVariants as contents
use Rattle.wv_class.specs.declared.raw_class.RawAttribute.{RawAttribute}
use Rattle.wv_class.specs.declared.raw_class.RawMember.{RawMember}
use Rattle.wv_class.specs.Breaks.{ContentBreaks, AttributesBreak, Has, is_value, is_code}
use Rattle.wv_class.specs.Layout.{SpellsAttribute, none, next}
use Rattle.wv_class.specs.Meaning.{IsNotesOf, AreNotesOf, content_codes, content_values, content_exceptions, kept_in, codes_in, values_in, exceptions_in}
use Rattle.wv_class.specs.Meaning as meaning
use Rattle.wv_class.specs.Written.{AreSpelled, count_codes}

-- no item of the content breaks what it must meet, in the members with such a head
abbrev pub NeverBreaks : List PoolEntry → ℕ → (RawMember → Type 0) → RawAttribute → Type 0
NeverBreaks pool class Head a = (raw : RawMember) (at : ℕ) → Head raw → ContentBreaks pool class raw a.content at → ⊥

-- what the attributes are of
pub record Parts : Type 0 where
  pub codes : List RawBody
  pub values : List ℕ
  pub exceptions : List ℕ
  pub notes : List Note
  pub kept : List Attribute

-- so many attributes of members with such a head, and what they are of
pub record AreParts (pool : List PoolEntry) (place : Place) (class : ℕ) (Head : RawMember → Type 0) (parts : Parts) (count : ℕ) (bytes : List ℕ) : Type 0 where
  pub all : List RawAttribute
  pub counted : length all ≡ count
  pub spelled : AreSpelled pool place all bytes
  pub sound : AllByRecursion (NeverBreaks pool class Head) all
  pub codes : codes_in all ≡ parts.codes
  pub values : values_in all ≡ parts.values
  pub exceptions : exceptions_in all ≡ parts.exceptions
  pub notes : AreNotesOf pool all parts.notes
  pub kept : parts.kept ≡ flat_map (kept_in pool) all

-- ---- How many are values, and how many are code

value_first : (c : Content) (others : List ℕ) → IsTrue (is_value c) → 1 + length others ≤ length (content_values c ++ others)
value_first (contents.ConstantValue number) others is = omega arith
value_first (contents.Code raw) others is = absurd cc
value_first (contents.Exceptions numbers) others is = absurd cc
value_first (contents.Annotations visible marks) others is = absurd cc
value_first (contents.ParameterAnnotations visible marks) others is = absurd cc
value_first (contents.Other bytes) others is = absurd cc

value_there : (all : List RawAttribute) (k : ℕ) (a : RawAttribute) → slice_get all k ≡ Some a → IsTrue (is_value a.content) → 1 ≤ length (values_in all)
value_there [] k a is value = absurd cc
value_there (b ∷ all) zero a is value =
    let same : a ≡ b = cc in
    let first = value_first b.content (values_in all) (subst (λ (t : RawAttribute). IsTrue (is_value t.content)) same value) in omega (arith, first)
value_there (b ∷ all) (suc k) a is value = let later = value_there all k a is value in omega (arith, later, length-append (content_values b.content) (values_in all))

two_values : (all : List RawAttribute) (k : ℕ) (a : RawAttribute) → slice_get all k ≡ Some a → IsTrue (is_value a.content) → Has is_value (take k all) → 2 ≤ length (values_in all)
two_values [] k a is value before = absurd cc
two_values (b ∷ all) zero a is value (j, x, has, other) = absurd cc
two_values (b ∷ all) (suc k) a is value (zero, x, has, other) =
    let same : x ≡ b = cc in
    let first = value_first b.content (values_in all) (subst (λ (t : RawAttribute). IsTrue (is_value t.content)) same other) in
    let later = value_there all k a is value in omega (arith, first, later)
two_values (b ∷ all) (suc k) a is value (suc j, x, has, other) =
    let later = two_values all k a is value (j, x, has, other) in omega (arith, later, length-append (content_values b.content) (values_in all))

code_one : (c : Content) → ◌≡◌ {A = ℕ} (if is_code c then 1 else 0) (length (content_codes c))
code_one (contents.Code raw) = refl
code_one (contents.ConstantValue number) = refl
code_one (contents.Exceptions numbers) = refl
code_one (contents.Annotations visible marks) = refl
code_one (contents.ParameterAnnotations visible marks) = refl
code_one (contents.Other bytes) = refl

pub codes_counted : (all : List RawAttribute) → count_codes all ≡ length (codes_in all)
codes_counted [] = refl
codes_counted (a ∷ all) =
    let here = sum_by-cons (λ (b : RawAttribute). if is_code b.content then 1 else 0) a all in
    let rest = codes_counted all in omega (arith, here, code_one a.content, rest, length-append (content_codes a.content) (codes_in all))

-- ---- One before the others

module _ (pool : List PoolEntry) (place : Place) (class : ℕ) (Head : RawMember → Type 0) where
  pub no_parts : AreParts pool place class Head (record { codes = []; values = []; exceptions = []; notes = []; kept = [] }) 0 []
  no_parts = record { all = []; counted = refl; spelled = λ near. none; sound = tt; codes = refl; values = refl; exceptions = refl; notes = meaning.none; kept = refl }

  -- one attribute before the others
  pub one_before : (a : RawAttribute) (front : List ℕ) (found : List Note) (parts : Parts) (count : ℕ) (bytes : List ℕ) → ((near : ℕ) → SpellsAttribute pool place near a front) → NeverBreaks pool class Head a → IsNotesOf pool a.content found
      → AreParts pool place class Head parts count bytes
      → AreParts pool place class Head (record {
        codes = content_codes a.content ++ parts.codes;
        values = content_values a.content ++ parts.values;
        exceptions = content_exceptions a.content ++ parts.exceptions;
        notes = found ++ parts.notes;
        kept = kept_in pool a ++ parts.kept;
      }) (suc count) (front ++ bytes)
  one_before a front found parts count bytes spelled sound notes others = record {
    all = a ∷ others.all;
    counted = ap suc others.counted;
    spelled = λ near. next (spelled near) (others.spelled (near - length front));
    sound = (sound, others.sound);
    codes = ap (λ (t : List RawBody). content_codes a.content ++ t) others.codes;
    values = ap (λ (t : List ℕ). content_values a.content ++ t) others.values;
    exceptions = ap (λ (t : List ℕ). content_exceptions a.content ++ t) others.exceptions;
    notes = meaning.next found parts.notes notes others.notes;
    kept = ap (λ (t : List Attribute). kept_in pool a ++ t) others.kept;
  }

  never_at : (all : List RawAttribute) (k : ℕ) (a : RawAttribute) → AllByRecursion (NeverBreaks pool class Head) all → slice_get all k ≡ Some a → NeverBreaks pool class Head a
  never_at [] k a h is = absurd cc
  never_at (b ∷ all) zero a h is = let same : b ≡ a = cc in subst (NeverBreaks pool class Head) same h.0
  never_at (b ∷ all) (suc k) a h is = never_at all k a h.1 is

  -- with one value at most none of the attributes breaks anything
  pub parts_sound : (parts : Parts) (count : ℕ) (bytes : List ℕ) (others : AreParts pool place class Head parts count bytes) → length parts.values ≤ 1
      → (raw : RawMember) (at : ℕ) → Head raw → AttributesBreak pool class raw others.all 8 at → ⊥
  parts_sound parts count bytes others one raw at head (k, a, is, (m, inl (e, value, before), f)) = let two = two_values others.all k a is value before in omega (arith, two, ap length others.values)
  parts_sound parts count bytes others one raw at head (k, a, is, (m, inr (n, breaks, e), f)) = never_at others.all k a others.sound is raw n head breaks
