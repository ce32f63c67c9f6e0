-- The places of attributes.
use Rattle.std.proofs.Common.{◌≡◌, ◌↔◌, ℕ, ◌+◌, ◌<◌, ◌≤◌, Bool, true, false, ◌&&◌, ◌||◌, List, length, get_or, take, Option, Some, refl, sym, ap, subst, ◌∙◌, arith, inl, inr, ◌⊎◌}
use Rattle.std.specs.Prelude.{slice_get, IsTrue, not}
use Rattle.std.proofs.lemmas.Bool.{cases_lt}
use Rattle.std.proofs.lemmas.Option.{slice_get-get_or}
use Rattle.wv_base.specs.declared.class_file.PoolEntry.{PoolEntry}
use Rattle.wv_pool.proofs.Behind.{some_is}
use Rattle.wv_code.specs.Least.{IsLeastOf, lesser, unless, Behind}
use Rattle.wv_code.proofs.LeastPlaces.{none_of, same, either, taken_front, taken_within}
use Rattle.wv_class.specs.declared.raw_class.RawAttribute.{RawAttribute}
use Rattle.wv_class.specs.declared.raw_class.RawMember.{RawMember}
use Rattle.wv_class.specs.Breaks.{is_value, Has, ContentBreaks, AttributeBreaks}

not_there : IsTrue false → ⊥
not_there e = absurd cc

-- ---- a ConstantValue behind another

pub has_more : (all : List RawAttribute) (i : ℕ) (d : RawAttribute) (seen now : Bool) → i < length all → IsTrue seen ↔ Has is_value (take i all) → now ≡ (seen || is_value (get_or all i d).content) → IsTrue now ↔ Has is_value (take (i + 1) all)
has_more all i d seen now lt before e = ((λ t. to seen before (subst IsTrue e t)), (λ h. subst IsTrue (sym e) (from h)))
  where
    here : slice_get all i ≡ Some (get_or all i d)
    here = slice_get-get_or all i d lt

    to : (s : Bool) → IsTrue s ↔ Has is_value (take i all) → IsTrue (s || is_value (get_or all i d).content) → Has is_value (take (i + 1) all)
    to true b t = let h = b.0 refl in let below : h.0 < i = taken_within all i h.0 h.1 h.2 in (h.0, h.1, taken_front all (i + 1) h.0 (omega arith) ∙ sym (taken_front all i h.0 below) ∙ h.2, h.3)
    to false b t = (i, get_or all i d, taken_front all (i + 1) i (omega arith) ∙ here, t)

    or_left : (a b : Bool) → IsTrue a → IsTrue (a || b)
    or_left true b t = refl
    or_left false b t = absurd (not_there t)

    or_right : (a b : Bool) → IsTrue b → IsTrue (a || b)
    or_right true b t = refl
    or_right false b t = t

    from : Has is_value (take (i + 1) all) → IsTrue (seen || is_value (get_or all i d).content)
    from (k, a, is, t) = elim (cases_lt k i) [
      | inl lt ↦ or_left seen _ (before.1 (k, a, taken_front all i k lt ∙ sym (taken_front all (i + 1) k (omega arith)) ∙ is, t))
      | inr le ↦
          let below : k < i + 1 = taken_within all (i + 1) k a is in
          let one : k ≡ i = omega arith in
          let item : a ≡ get_or all i d = some_is a (get_or all i d) (sym is ∙ taken_front all (i + 1) k below ∙ ap (slice_get all) one ∙ here) in
          or_right seen _ (subst (λ (z : RawAttribute). IsTrue (is_value z.content)) item t)
    ]

-- ---- an attribute

module _ (pool : List PoolEntry) (class : ℕ) (m : RawMember) (before : List RawAttribute) (a : RawAttribute) where
  second_least : (seen value : Bool) (place : ℕ) → IsTrue seen ↔ Has is_value before → value ≡ is_value a.content → IsLeastOf (λ n. (n ≡ place) × IsTrue (is_value a.content) × Has is_value before) (unless (not (seen && value)) place)
  second_least true true place there e = record { holds = (refl, sym e, there.0 refl); least = λ n k. omega (arith, k.0) }
  second_least true false place there e = none_of (λ n k. not_there (e ∙ k.1))
  second_least false value place there e = none_of (λ n k. not_there (there.1 k.2))

  pub attribute_least : (seen : Bool) (place : ℕ) {x y o : Option ℕ} → IsTrue seen ↔ Has is_value before → o ≡ lesser x y → x ≡ unless (not (seen && is_value a.content)) place
      → IsLeastOf (Behind (place + 6) (ContentBreaks pool class m a.content)) y → IsLeastOf (Behind place (AttributeBreaks pool class m before a)) o
  attribute_least seen place there e f h =
      same to from (either e (subst (IsLeastOf (λ n. (n ≡ place) × IsTrue (is_value a.content) × Has is_value before)) (sym f) (second_least seen (is_value a.content) place there refl)) h)
    where
      to : (n : ℕ) → ((n ≡ place) × IsTrue (is_value a.content) × Has is_value before) ⊎ Behind (place + 6) (ContentBreaks pool class m a.content) n → Behind place (AttributeBreaks pool class m before a) n
      to n (inl k) = (0, inl (refl, k.1, k.2), omega (arith, k.0))
      to n (inr k) = (6 + k.0, inr (k.0, k.1, refl), omega (arith, k.2))

      from : (n : ℕ) → Behind place (AttributeBreaks pool class m before a) n → ((n ≡ place) × IsTrue (is_value a.content) × Has is_value before) ⊎ Behind (place + 6) (ContentBreaks pool class m a.content) n
      from n (l, inl k, e) = inl (omega (arith, e, k.0), k.1, k.2)
      from n (l, inr k, e) = inr (k.0, k.1, omega (arith, e, k.2))
