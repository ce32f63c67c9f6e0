-- Fields and methods, as they are put.
use Rattle.std.proofs.Common.{◌≡◌, ℕ, zero, suc, ◌^◌, ◌<◌, List, [], ◌∷◌, ◌++◌, length, get_or, Option, refl, sym, ap, subst, ◌∙◌, append_assoc, inl, inr, arith}
use Rattle.std.specs.List.{AllByRecursion}
use Rattle.std.proofs.lemmas.Bool.{cases_lt}
use Rattle.wv_base.specs.declared.class_file.PoolEntry.{PoolEntry}
use Rattle.wv_base.specs.declared.class_file.Member.{Member}
use Rattle.wv_base.specs.declared.constant.Const.TheVariants as constants
use Rattle.wv_pool.specs.Entries.{number_bytes}
use Rattle.wv_pool.specs.Numbers.{Named}
use Rattle.wv_code.specs.declared.code_layout.CodeLayout.{CodeLayout}
use Rattle.wv_code.proofs.Written.{all_front, all_back}
use Rattle.wv_class.specs.Laid.{IsLaid, AreLaid}
use Rattle.wv_class.specs.Limits.{member_attributes, HasLong}
use Rattle.wv_class.specs.Needs.{parts_of, value_constants, code_constants, exceptions_constants, annotations_need, member_constants, member_needs}
use Rattle.wv_class.specs.Appending.{Appends, WritesText, WritesValue, WritesCode, WritesExceptions, WritesOthers, WritesMember}
use Rattle.wv_class.proofs.HasParts.{HasParts, part_named, each_has_parts, parts_together}

-- a count that doesn't pass has two bytes
pub fits_count : (n : ℕ) → (65535 < n → ⊥) → n < 2 ^ 16
fits_count n not = elim (cases_lt n (2 ^ 16)) [
  | inl less ↦ less
  | inr more ↦ absurd (not (omega (arith, more)))
]

-- ---- The constants of a field or a method

module _ (pool : List PoolEntry) (m : Member) (named : AllByRecursion (Named pool) (member_needs m)) where
  constants_parts : AllByRecursion (HasParts pool) (member_constants m)
  constants_parts = each_has_parts pool (member_constants m) (all_back (Named pool) (annotations_need m.notes) (parts_of (member_constants m)) named)

  attributes_parts : AllByRecursion (HasParts pool) (value_constants m.value ++ (code_constants m.body ++ exceptions_constants m.throws))
  attributes_parts = constants_parts.1.1

  others_parts : AllByRecursion (HasParts pool) (code_constants m.body ++ exceptions_constants m.throws)
  others_parts = all_back (HasParts pool) (value_constants m.value) (code_constants m.body ++ exceptions_constants m.throws) attributes_parts

  pub name_named : Named pool (constants.Utf8 m.name)
  name_named = part_named pool (constants.Utf8 m.name) constants_parts.0

  pub descriptor_named : Named pool (constants.Utf8 m.descriptor)
  descriptor_named = part_named pool (constants.Utf8 m.descriptor) constants_parts.1.0

  pub value_parts : AllByRecursion (Named pool) (parts_of (value_constants m.value))
  value_parts = parts_together pool (value_constants m.value) (all_front (HasParts pool) (value_constants m.value) (code_constants m.body ++ exceptions_constants m.throws) attributes_parts)

  pub code_parts : AllByRecursion (Named pool) (parts_of (code_constants m.body))
  code_parts = parts_together pool (code_constants m.body) (all_front (HasParts pool) (code_constants m.body) (exceptions_constants m.throws) others_parts)

  pub exceptions_parts : AllByRecursion (Named pool) (parts_of (exceptions_constants m.throws))
  exceptions_parts = parts_together pool (exceptions_constants m.throws) (all_back (HasParts pool) (code_constants m.body) (exceptions_constants m.throws) others_parts)

  pub notes_parts : AllByRecursion (Named pool) (annotations_need m.notes)
  notes_parts = all_front (Named pool) (annotations_need m.notes) (parts_of (member_constants m)) named

-- ---- One field or method

-- what was put first, and what was put behind it
pub behind : (old middle new front back : List ℕ) → middle ≡ old ++ front → new ≡ middle ++ back → new ≡ old ++ (front ++ back)
behind old middle new front back first next = next ∙ ap (λ (t : List ℕ). t ++ back) first ∙ append_assoc old front back

module _ (pool : List PoolEntry) (m : Member) (o0 o1 o2 o3 o4 o5 o6 o7 o8 : List ℕ) where
  pub member_put : m.flags.0 < 2 ^ 16 → (HasLong m → ⊥) → o1 ≡ o0 ++ number_bytes m.flags.0 → Appends (WritesText pool m.name) o1 o2 → Appends (WritesText pool m.descriptor) o2 o3 → o4 ≡ o3 ++ number_bytes (member_attributes m)
      → Appends (WritesValue pool m.value) o4 o5 → Appends (WritesCode pool m.body) o5 o6 → Appends (WritesExceptions pool m.throws) o6 o7 → Appends (WritesOthers pool m.notes m.kept) o7 o8 → Appends (WritesMember pool m) o0 o8
  member_put flags few head name descriptor count value code exceptions others =
      let flag = number_bytes m.flags.0 in
      let counted = number_bytes (member_attributes m) in
      let from_others = others.longer in
      let from_exceptions = behind o6 o7 o8 exceptions.bytes others.bytes exceptions.longer from_others in
      let from_code = behind o5 o6 o8 code.bytes (exceptions.bytes ++ others.bytes) code.longer from_exceptions in
      let attributes = value.bytes ++ (code.bytes ++ (exceptions.bytes ++ others.bytes)) in
      let from_value = behind o4 o5 o8 value.bytes (code.bytes ++ (exceptions.bytes ++ others.bytes)) value.longer from_code in
      let from_count = behind o3 o4 o8 counted attributes count from_value in
      let from_descriptor = behind o2 o3 o8 descriptor.bytes (counted ++ attributes) descriptor.longer from_count in
      let from_name = behind o1 o2 o8 name.bytes (descriptor.bytes ++ (counted ++ attributes)) name.longer from_descriptor in
      record {
        bytes = flag ++ (name.bytes ++ (descriptor.bytes ++ (counted ++ attributes)));
        written = record {
          flags = flags;
          few = fits_count (member_attributes m) (λ h. few (inr h));
          name = name.bytes;
          name_is = name.written;
          descriptor = descriptor.bytes;
          descriptor_is = descriptor.written;
          value = value.bytes;
          value_is = value.written;
          code = code.bytes;
          code_is = code.written;
          exceptions = exceptions.bytes;
          exceptions_are = exceptions.written;
          others = others.bytes;
          others_are = others.written;
          spelled = refl;
        };
        longer = behind o0 o1 o8 flag (name.bytes ++ (descriptor.bytes ++ (counted ++ attributes))) head from_name;
      }

-- ---- All methods

-- the layout of one of the methods
pub layout_at : (pool : List PoolEntry) (methods : List Member) (layouts : List (Option CodeLayout)) (i : ℕ) (m : Member) (layout : Option CodeLayout) → i < length methods → m ≡ get_or methods i m → layout ≡ get_or layouts i layout
    → AreLaid pool methods layouts → IsLaid pool m.body layout
layout_at pool [] layouts i m layout within is at laid = absurd (omega (arith, within))
layout_at pool (n ∷ methods) [] i m layout within is at laid = absurd laid
layout_at pool (n ∷ methods) (l ∷ layouts) zero m layout within is at laid = subst (λ (x : Member). IsLaid pool x.body layout) (sym is) (subst (IsLaid pool n.body) (sym at) laid.0)
layout_at pool (n ∷ methods) (l ∷ layouts) (suc i) m layout within is at laid = layout_at pool methods layouts i m layout (omega (arith, within)) is at laid.1

pub layouts_many : (pool : List PoolEntry) (methods : List Member) (layouts : List (Option CodeLayout)) → AreLaid pool methods layouts → length methods ≡ length layouts
layouts_many pool [] [] laid = refl
layouts_many pool [] (l ∷ layouts) laid = absurd laid
layouts_many pool (n ∷ methods) [] laid = absurd laid
layouts_many pool (n ∷ methods) (l ∷ layouts) laid = ap suc (layouts_many pool methods layouts laid.1)
