-- The keys of the members that were seen, and that no two of them are the same.
use Rattle.std.proofs.Common.{◌≡◌, ℕ, zero, suc, ◌+◌, ◌<◌, ◌≤◌, Bool, true, false, cond, ◌&&◌, ◌||◌, List, [], ◌∷◌, ◌++◌, length, take, get_or, bytes_eq, Some, refl, sym, ap, subst, ◌∙◌, arith, add-one, ◌⊎◌, inl, inr}
use Rattle.std.specs.Prelude.{not, slice_get}
use Rattle.std.specs.List.{list_any}
use Rattle.std.specs.Ordering.{is_eq, nat_cmp, ordering_then}
use Rattle.std.specs.declared.cmp.Ordering.{Ordering}
use Rattle.std.specs.declared.cmp.Ordering.TheVariants as orders
use Rattle.std.specs.Cmp.Lexicographic.{slice_cmp}
use Rattle.std.specs.BTreeSet.{BTreeSet, contains, Updates}
use Rattle.std.proofs.lemmas.Map.Text.{is_eq-slice_cmp}
use Rattle.std.proofs.lemmas.Slice.Eq.{bytes_eq-Decides}
use Rattle.std.proofs.lemmas.List.{take_more}
use Rattle.std.proofs.lemmas.List.Folds.{list_any-append}
use Rattle.std.proofs.lemmas.Option.{slice_get_within, slice_get_read}
use Rattle.wv_base.specs.declared.class_file.Member.{Member}
use Rattle.wv_class.specs.Formed.{AreDistinct}

abbrev pub Key : Type 0
Key = List ℕ × List ℕ

-- the name and the descriptor
abbrev pub key_of : Member → Key
key_of m = (m.name, m.descriptor)

-- the order of keys, by their names and then by their descriptors
abbrev pub key_cmp : Key → Key → Ordering
key_cmp x y = ordering_then (slice_cmp nat_cmp x.0 y.0) (slice_cmp nat_cmp x.1 y.1)

abbrev pub is_key : Key → Member → Bool
is_key key m = is_eq (key_cmp (key_of m) key)

then_eq : (a b : Ordering) → is_eq (ordering_then a b) ≡ (is_eq a && is_eq b)
then_eq orders.Less b = refl
then_eq orders.Equal b = refl
then_eq orders.Greater b = refl

key_test : (x y : Key) → is_eq (key_cmp x y) ≡ (bytes_eq x.0 y.0 && bytes_eq x.1 y.1)
key_test x y = then_eq (slice_cmp nat_cmp x.0 y.0) (slice_cmp nat_cmp x.1 y.1) ∙ rw (is_eq-slice_cmp x.0 y.0, is_eq-slice_cmp x.1 y.1) refl

both : (a b : Bool) → (a && b) ≡ true → (a ≡ true) × (b ≡ true)
both true b e = (refl, e)
both false b e = absurd cc

same_is : (one other : Member) → is_key (key_of other) one ≡ true → (one.name ≡ other.name) × (one.descriptor ≡ other.descriptor)
same_is one other e =
    let parts = both (bytes_eq one.name other.name) (bytes_eq one.descriptor other.descriptor) (sym (key_test (key_of one) (key_of other)) ∙ e) in
    ((bytes_eq-Decides one.name other.name).0 parts.0, (bytes_eq-Decides one.descriptor other.descriptor).0 parts.1)

same_test : (one other : Member) → one.name ≡ other.name → one.descriptor ≡ other.descriptor → is_key (key_of other) one ≡ true
same_test one other name descriptor =
    key_test (key_of one) (key_of other) ∙ rw ((bytes_eq-Decides one.name other.name).1 name, (bytes_eq-Decides one.descriptor other.descriptor).1 descriptor) refl

-- the first members, so many, and their keys
pub record HasKeys (seen : BTreeSet Key) (members : List Member) (count : ℕ) : Type 0 where
  pub distinct : (j k : ℕ) (one other : Member) → j < k → k < count → slice_get members j ≡ Some one → slice_get members k ≡ Some other → one.name ≡ other.name → one.descriptor ≡ other.descriptor → ⊥
  pub exact : (key : Key) → contains key_cmp seen key ≡ list_any (is_key key) (take count members)

or_is : (a b : Bool) → (a || b) ≡ true → (a ≡ true) ⊎ (b ≡ true)
or_is true b e = inl refl
or_is false b e = inr e

or_not : (a b : Bool) → (a || b) ≡ false → (a ≡ false) × (b ≡ false)
or_not true b e = absurd cc
or_not false b e = (refl, e)

none_before : (test : Member → Bool) (members : List Member) (count j : ℕ) (one : Member) → j < count → slice_get members j ≡ Some one → list_any test (take count members) ≡ false → test one ≡ false
none_before test members zero j one lt at none = absurd (omega arith)
none_before test [] (suc count) j one lt at none = absurd cc
none_before test (m ∷ members) (suc count) zero one lt at none = subst (λ x. test x ≡ false) (some m one at) (or_not (test m) (list_any test (take count members)) none).0
  where
    some : (a b : Member) → Some a ≡ Some b → a ≡ b
    some a b e = cc
none_before test (m ∷ members) (suc count) (suc j) one lt at none = none_before test members count j one (omega arith) at (or_not (test m) (list_any test (take count members)) none).1

-- an earlier member that passes
record Found (test : Member → Bool) (members : List Member) (count : ℕ) : Type 0 where
  place : ℕ
  one : Member
  before : place < count
  at : slice_get members place ≡ Some one
  passes : test one ≡ true

found : (test : Member → Bool) (members : List Member) (count : ℕ) → list_any test (take count members) ≡ true → Found test members count
found test members zero e = absurd cc
found test [] (suc count) e = absurd cc
found test (m ∷ members) (suc count) e =
    elim (or_is (test m) (list_any test (take count members)) e) [
      | inl here ↦ record { place = 0; one = m; before = omega arith; at = refl; passes = here }
      | inr there ↦ let f = found test members count there in record { place = suc f.place; one = f.one; before = omega (arith, f.before); at = f.at; passes = f.passes }
    ]

or_last : (a b : Bool) → cond b true a ≡ (a || (b || false))
or_last true true = refl
or_last true false = refl
or_last false true = refl
or_last false false = refl

not_true : (a : Bool) → not a ≡ true → a ≡ false
not_true true e = absurd cc
not_true false e = refl

not_false : (a : Bool) → not a ≡ false → a ≡ true
not_false true e = refl
not_false false e = absurd cc

some_is : (a b : Member) → Some a ≡ Some b → a ≡ b
some_is a b e = cc

split : (k i : ℕ) → k < i + 1 → (k < i) ⊎ (k ≡ i)
split zero zero lt = inr refl
split zero (suc i) lt = inl (omega arith)
split (suc k) zero lt = absurd (omega arith)
split (suc k) (suc i) lt =
    elim (split k i (omega arith)) [
      | inl before ↦ inl (omega (arith, before))
      | inr last ↦ inr (ap suc last)
    ]

-- a member whose key wasn't seen
pub next_keys : (old new : BTreeSet Key) (members : List Member) (i : ℕ) (m : Member) → i < length members → m ≡ get_or members i m → HasKeys old members i → not (contains key_cmp old (key_of m)) ≡ true
    → Updates key_cmp old new (key_of m) true → HasKeys new members (i + 1)
next_keys old new members i m lt is has fresh updates =
    let here : slice_get members i ≡ Some m = slice_get_read members (length members) i m refl lt is in
    let none : list_any (is_key (key_of m)) (take i members) ≡ false = sym (has.exact (key_of m)) ∙ not_true _ fresh in
    record {
      distinct = λ j k one other before within at there name descriptor. elim (split k i within) [
        | inl earlier ↦ has.distinct j k one other before earlier at there name descriptor
        | inr last ↦
            let same : other ≡ m = some_is other m (sym there ∙ ap (slice_get members) last ∙ here) in
            let hit : is_key (key_of m) one ≡ true = same_test one m (name ∙ ap (λ (x : Member). x.name) same) (descriptor ∙ ap (λ (x : Member). x.descriptor) same) in
            let miss : is_key (key_of m) one ≡ false = none_before (is_key (key_of m)) members i j one (omega (arith, before, last)) at none in
            absurd (differ (sym hit ∙ miss))
      ];
      exact = λ key. updates.0 key ∙ ap (cond (is_key key m) true) (has.exact key) ∙ or_last (list_any (is_key key) (take i members)) (is_key key m) ∙ sym (list_any-append (is_key key) (take i members) (m ∷ []))
          ∙ ap (list_any (is_key key)) (ap (λ x. take i members ++ x ∷ []) is ∙ sym (take_more members i m lt));
    }
  where
    differ : true ≡ false → ⊥
    differ e = cc

-- and one whose key was
pub seen_twice : (old : BTreeSet Key) (members : List Member) (i : ℕ) (m : Member) → i < length members → m ≡ get_or members i m → HasKeys old members i → not (contains key_cmp old (key_of m)) ≡ false → AreDistinct members → ⊥
seen_twice old members i m lt is has seen distinct =
    let here : slice_get members i ≡ Some m = slice_get_read members (length members) i m refl lt is in
    let f = found (is_key (key_of m)) members i (sym (has.exact (key_of m)) ∙ not_false _ seen) in
    let same = same_is f.one m f.passes in
    distinct f.place i f.one m f.before f.at here same.0 same.1

pub all_distinct : (seen : BTreeSet Key) (members : List Member) (count : ℕ) → length members ≤ count → HasKeys seen members count → AreDistinct members
all_distinct seen members count le has j k one other before at there = has.distinct j k one other before (omega (arith, le, slice_get_within members k other there)) at there
