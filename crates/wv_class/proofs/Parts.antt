-- The place of the first number in parts of annotations that breaks what it must meet.
use Rattle.std.proofs.Common.{◌≡◌, ℕ, ◌+◌, ◌≤◌, List, [], ◌∷◌, ◌++◌, length, Option, Some, None, refl, sym, ap, subst, ◌∙◌, arith, inl, inr, ◌⊎◌}
use Rattle.std.specs.List.{AllByRecursion}
use Rattle.std.proofs.lemmas.List.{length-append}
use Rattle.std.proofs.lemmas.List.Concat.{flat_map-append}
use Rattle.wv_base.specs.declared.class_file.PoolEntry.{PoolEntry}
use Rattle.wv_attr.specs.declared.mark.Mark.{Mark}
use Rattle.wv_attr.specs.declared.mark.Mark.TheVariants as marks
use Rattle.wv_attr.specs.Marks.{mark_bytes, table_bytes}
use Rattle.wv_attr.specs.References.{FirstHolds, first_place, IsSound, BreaksAt, FirstBreaks}
use Rattle.wv_attr.proofs.Uniqueness.{sound_unbroken}
use Rattle.wv_code.specs.Least.{IsLeastOf, Behind}
use Rattle.wv_code.proofs.LeastPlaces.{none_of}

unsound : (pool : List PoolEntry) (m : Mark) (field : ℕ) → BreaksAt pool m field → IsSound pool m → ⊥
unsound pool m field (inl h) s = h.1 s.0
unsound pool m field (inr h) s = h.2 s.1

-- parts taken apart at an unsound one behind sound ones: there is one way
one_way : (pool : List PoolEntry) (xs ys : List Mark) (a b : Mark) (us vs : List Mark) → xs ++ a ∷ us ≡ ys ++ b ∷ vs → AllByRecursion (IsSound pool) xs → AllByRecursion (IsSound pool) ys → (IsSound pool a → ⊥) → (IsSound pool b → ⊥)
    → (xs ≡ ys) × (a ≡ b)
one_way pool [] [] a b us vs e h k m n = (refl, cc)
one_way pool [] (y ∷ ys) a b us vs e h k m n = let one : y ≡ a = cc in absurd (m (subst (IsSound pool) one k.0))
one_way pool (x ∷ xs) [] a b us vs e h k m n = let one : x ≡ b = cc in absurd (n (subst (IsSound pool) one h.0))
one_way pool (x ∷ xs) (y ∷ ys) a b us vs e h k m n =
    let one : x ≡ y = cc in
    let others : xs ++ a ∷ us ≡ ys ++ b ∷ vs = cc in
    let rest = one_way pool xs ys a b us vs others h.1 k.1 m n in
    (cc (one, rest.0), rest.1)

one_field : (pool : List PoolEntry) (m : Mark) (f g : ℕ) → BreaksAt pool m f → BreaksAt pool m g → f ≡ g
one_field pool m f g (inl h) (inl k) = h.0 ∙ sym k.0
one_field pool m f g (inl h) (inr k) = absurd (h.1 k.1)
one_field pool m f g (inr h) (inl k) = absurd (k.1 h.1)
one_field pool m f g (inr h) (inr k) = h.0 ∙ sym k.0

one_first : (pool : List PoolEntry) (parts : List Mark) (a b : ℕ) → FirstBreaks pool parts a → FirstBreaks pool parts b → a ≡ b
one_first pool parts a b h k =
    let way = one_way pool h.before k.before h.part k.part h.after k.after (sym h.splits ∙ k.splits) h.sound k.sound (unsound pool h.part h.field h.breaks) (unsound pool k.part k.field k.breaks) in
    let field : h.field ≡ k.field = one_field pool k.part h.field k.field (subst (λ (m : Mark). BreaksAt pool m h.field) way.1 h.breaks) k.breaks in
    let before : length (table_bytes h.before) ≡ length (table_bytes k.before) = ap (λ (xs : List Mark). length (table_bytes xs)) way.0 in
    omega (arith, h.place, k.place, field, before)

first_low : (m : Mark) → first_place m ≤ 1
first_low (marks.List count) = omega arith
first_low (marks.Annotation class count) = omega arith
first_low (marks.Name name) = omega arith
first_low (marks.Constant tag value) = omega arith
first_low (marks.Enum descriptor name) = omega arith
first_low (marks.Class descriptor) = omega arith
first_low marks.Nested = omega arith
first_low (marks.Array count) = omega arith

field_low : (pool : List PoolEntry) (m : Mark) (field : ℕ) → BreaksAt pool m field → field ≤ 3
field_low pool m field (inl h) = omega (arith, h.0, first_low m)
field_low pool m field (inr h) = omega (arith, h.0)

-- no place is far behind the parts
pub first_near : (pool : List PoolEntry) (parts : List Mark) (at : ℕ) → FirstBreaks pool parts at → at ≤ length (table_bytes parts) + 3
first_near pool parts at h =
    let whole : length (table_bytes parts) ≡ length (table_bytes h.before) + length (table_bytes (h.part ∷ h.after)) =
    ap (λ (xs : List Mark). length (table_bytes xs)) h.splits ∙ ap length (flat_map-append mark_bytes h.before (h.part ∷ h.after)) ∙ length-append (table_bytes h.before) (table_bytes (h.part ∷ h.after)) in
    omega (arith, h.place, whole, field_low pool h.part h.field h.breaks)

pub marks_found : (pool : List PoolEntry) (parts : List Mark) (base at : ℕ) → FirstBreaks pool parts at → IsLeastOf (Behind base (FirstBreaks pool parts)) (Some (base + at))
marks_found pool parts base at h = record {
  holds = (at, h, refl);
  least = λ n k. omega (arith, k.2, one_first pool parts at k.0 h k.1);
}

pub marks_none : (pool : List PoolEntry) (parts : List Mark) (base : ℕ) → AllByRecursion (IsSound pool) parts → IsLeastOf (Behind base (FirstBreaks pool parts)) None
marks_none pool parts base h = none_of (λ n k. sound_unbroken pool parts k.0 h k.1)
