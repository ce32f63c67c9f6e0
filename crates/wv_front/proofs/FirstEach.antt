-- Of ordered namings the first of each class, and that these are the mixins that are applied, in order.
use Rattle.std.proofs.Common.{◌≡◌, ◌≢◌, ◌↔◌, inl, inr, ℕ, ◌<◌, Bool, true, false, not, ◌||◌, List, [], ◌∷◌, ◌++◌, length, get_or, take, All, Any, AllPairs, Contains, Result, Ok, Err, IfOk, refl, ap, sym, ◌∙◌, subst, arith, true≢false, length-append}
use Rattle.std.specs.BTreeSet.{BTreeSet, contains, Updates}
use Rattle.std.specs.List.{list_any}
use Rattle.std.specs.Ordering.{nat_cmp, is_eq}
use Rattle.std.specs.Prelude.{◌==◌}
use Rattle.std.proofs.lemmas.Bool.{cases_Bool}
use Rattle.std.proofs.lemmas.List.{get_or_default}
use Rattle.std.proofs.lemmas.List.Elements.{All-push, All-contains, Contains-push, Contains-append_left}
use Rattle.std.proofs.lemmas.List.Folds.{list_any-append, Any-from_list_any, list_any-from_Any}
use Rattle.std.proofs.lemmas.List.Quantifiers.{Any-push, all_pairs_push}
use Rattle.std.proofs.lemmas.List.Sorted.{Contains-permutation, IsPermutation-sym}
use Rattle.wv_base.specs.declared.side.Side.{Side}
use Rattle.wv_classes.specs.declared.loaded_class.LoadedClass.{LoadedClass}
use Rattle.wv_config.specs.declared.loaded.LoadedConfig.{LoadedConfig}
use Rattle.wv_resolve.proofs.Lists.{front-more, any-append, same-of-pairs, all-before}
use Rattle.wv_front.specs.declared.order.AppliedMixin.{AppliedMixin}
use Rattle.wv_front.specs.MixinOrder.{IsNaming, IsBefore, IsApplied, AreApplied, AreOrdered}
use Rattle.wv_front.specs.Naming.{NotBefore, AreFirsts, IsSortedOf}
use Rattle.wv_front.proofs.Keys.{SameKey, one-way, key-cases}
use Rattle.wv_front.proofs.Namings.{naming-one}

not-itself : (mixin : AppliedMixin) → NotBefore mixin mixin
not-itself mixin h = one-way mixin mixin h h

-- ---- One naming after the other

-- some mixin is of the class at this place
abbrev pub HasClass : List AppliedMixin → ℕ → Type 0
HasClass mixins place = Any (λ mixin. mixin.class_place ≡ place) mixins

pub firsts-none : AreFirsts [] []
firsts-none = record {
  each = λ k d inside. absurd (omega arith);
  least = λ k d inside. absurd (omega arith);
  ordered = λ i j d below inside. absurd (omega arith);
  apart = λ i j d below inside. absurd (omega arith);
}

-- a mixin of the same class that isn't after it
Covers : List AppliedMixin → AppliedMixin → Type 0
Covers mixins naming = Any (λ mixin. (mixin.class_place ≡ naming.class_place) × NotBefore mixin naming) mixins

-- one more of those that were gone over
pub yielded-more : (all xs : List AppliedMixin) (x : AppliedMixin) → xs ≡ take (length xs) all → (length xs < length all) × (x ≡ get_or all (length xs) x) → xs ++ x ∷ [] ≡ take (length (xs ++ x ∷ [])) all
yielded-more all xs x so_far (inside, at) =
    ap (λ ys. ys ++ x ∷ []) so_far ∙ sym (front-more all (length xs) x inside at) ∙ ap (λ n. take n all) (sym (length-append xs (x ∷ [])))

-- in order, none of them is after it
pub yielded-before : (all xs : List AppliedMixin) (x : AppliedMixin) → AllPairs NotBefore all → xs ≡ take (length xs) all → (length xs < length all) × (x ≡ get_or all (length xs) x) → All (λ y. NotBefore y x) xs
yielded-before all xs x pairs so_far (inside, at) = subst (All (λ y. NotBefore y x)) (sym so_far) (all-before NotBefore all (length xs) x pairs inside at)

module _ (xs : List AppliedMixin) (x : AppliedMixin) (mixins : List AppliedMixin) (before : All (λ y. NotBefore y x) xs) (h : AreFirsts xs mixins) where
  there : All (Contains (xs ++ x ∷ [])) mixins
  there k d within = Contains-append_left xs (x ∷ []) (get_or mixins k d) (h.each k d within)

  pub firsts-new : (HasClass mixins x.class_place → ⊥) → AreFirsts (xs ++ x ∷ []) (mixins ++ x ∷ [])
  unfolding Covers
  firsts-new none = record {
    each = All-push (Contains (xs ++ x ∷ [])) mixins x there (Contains-push xs x);
    least = All-push (Covers (mixins ++ x ∷ [])) xs x
        (λ k d within. any-append (λ m. (m.class_place ≡ (get_or xs k d).class_place) × NotBefore m (get_or xs k d)) mixins (x ∷ []) (h.least k d within))
        (Any-push (λ m. (m.class_place ≡ x.class_place) × NotBefore m x) mixins x (refl, not-itself x));
    ordered = all_pairs_push NotBefore mixins x h.ordered (λ k d within. All-contains (λ y. NotBefore y x) xs (get_or mixins k d) before (h.each k d within));
    apart = all_pairs_push (λ m o. m.class_place ≢ o.class_place) mixins x h.apart
        (λ k d within same. none (k, get_or mixins k d, within, get_or_default mixins k (get_or mixins k d) d within, same));
  }

  pub firsts-old : HasClass mixins x.class_place → AreFirsts (xs ++ x ∷ []) mixins
  unfolding Covers
  firsts-old (k, m, within, at_m, same) = record {
    each = there;
    least = All-push (Covers mixins) xs x h.least
        (k, m, within, at_m, (same, All-contains (λ y. NotBefore y x) xs m before (All-contains (Contains xs) mixins m h.each (k, within, at_m))));
    ordered = h.ordered;
    apart = h.apart;
  }

-- ---- The places that were seen

pub is_at : ℕ → AppliedMixin → Bool
is_at place mixin = mixin.class_place == place

-- the places of the mixins' classes
pub record HasSeen (seen : BTreeSet ℕ) (mixins : List AppliedMixin) : Type 0 where
  pub exact : (place : ℕ) → contains nat_cmp seen place ≡ list_any (is_at place) mixins

same-number : (a b : ℕ) → is_eq (nat_cmp a b) ≡ true → a ≡ b
same-number a b e = grind arith

other-number : (a b : ℕ) → is_eq (nat_cmp a b) ≡ false → (a == b) ≡ false
other-number a b e = grind arith

is-number : (a b : ℕ) → (a == b) ≡ true → a ≡ b
is-number a b e = grind arith

equal-number : (a b : ℕ) → a ≡ b → (a == b) ≡ true
equal-number a b e = grind arith

or-one : (a b : Bool) → b ≡ true → (a || (b || false)) ≡ true
or-one true b e = refl
or-one false true e = refl
or-one false false e = absurd (true≢false (sym e))

or-none : (a b : Bool) → b ≡ false → (a || (b || false)) ≡ a
or-none true b e = refl
or-none false true e = absurd (true≢false e)
or-none false false e = refl

pub seen-none : (seen : BTreeSet ℕ) → ((place : ℕ) → contains nat_cmp seen place ≡ false) → HasSeen seen []
seen-none seen none = record { exact = none }

pub seen-more : (old new : BTreeSet ℕ) (mixins : List AppliedMixin) (x : AppliedMixin) → Updates nat_cmp old new x.class_place true → HasSeen old mixins → HasSeen new (mixins ++ x ∷ [])
unfolding is_at
seen-more old new mixins x updates h = record {
  exact = λ place. elim (cases_Bool (is_eq (nat_cmp x.class_place place))) [
    | inl e ↦
        let same : x.class_place ≡ place = same-number x.class_place place e in
        ap (contains nat_cmp new) (sym same) ∙ updates.1
        ∙ sym (list_any-append (is_at place) mixins (x ∷ []) ∙ or-one (list_any (is_at place) mixins) (is_at place x) (equal-number x.class_place place same))
    | inr e ↦
        updates.2 place e ∙ h.exact place
        ∙ sym (list_any-append (is_at place) mixins (x ∷ []) ∙ or-none (list_any (is_at place) mixins) (is_at place x) (other-number x.class_place place e))
  ];
}

seen-true : (seen : BTreeSet ℕ) (mixins : List AppliedMixin) (place : ℕ) → HasSeen seen mixins → contains nat_cmp seen place ≡ true → HasClass mixins place
unfolding is_at
seen-true seen mixins place h e =
    let (k, m, inside, at, same) = Any-from_list_any (is_at place) mixins (sym (h.exact place) ∙ e) in
    (k, m, inside, at, is-number m.class_place place same)

seen-false : (seen : BTreeSet ℕ) (mixins : List AppliedMixin) (place : ℕ) → HasSeen seen mixins → contains nat_cmp seen place ≡ false → HasClass mixins place → ⊥
unfolding is_at
seen-false seen mixins place h e (k, m, inside, at, same) =
    true≢false (sym (list_any-from_Any (is_at place) mixins (k, m, inside, at, equal-number m.class_place place same)) ∙ sym (h.exact place) ∙ e)

unless-there : (there added : Bool) → added ≡ not there → added ≡ false → there ≡ true
unless-there true added e f = refl
unless-there false added e f = absurd (true≢false (sym e ∙ f))

unless-new : (there added : Bool) → added ≡ not there → added ≡ true → there ≡ false
unless-new true added e f = absurd (true≢false (sym f ∙ e))
unless-new false added e f = refl

-- whether a place was new
pub seen-class : (seen : BTreeSet ℕ) (mixins : List AppliedMixin) (place : ℕ) (added : Bool) → HasSeen seen mixins → added ≡ not (contains nat_cmp seen place) → added ≡ false → HasClass mixins place
seen-class seen mixins place added h e f = seen-true seen mixins place h (unless-there (contains nat_cmp seen place) added e f)

pub unseen-class : (seen : BTreeSet ℕ) (mixins : List AppliedMixin) (place : ℕ) (added : Bool) → HasSeen seen mixins → added ≡ not (contains nat_cmp seen place) → added ≡ true → HasClass mixins place → ⊥
unseen-class seen mixins place added h e f = seen-false seen mixins place h (unless-new (contains nat_cmp seen place) added e f)

pub seen-again : (old new : BTreeSet ℕ) (mixins : List AppliedMixin) (place : ℕ) (added : Bool) → Updates nat_cmp old new place true → HasSeen old mixins → added ≡ not (contains nat_cmp old place) → added ≡ false → HasSeen new mixins
seen-again old new mixins place added updates h e f = record {
  exact = λ other. elim (cases_Bool (is_eq (nat_cmp place other))) [
    | inl tied ↦
        let same : place ≡ other = same-number place other tied in
        ap (contains nat_cmp new) (sym same) ∙ updates.1 ∙ sym (unless-there (contains nat_cmp old place) added e f) ∙ ap (contains nat_cmp old) same ∙ h.exact other
    | inr apart ↦ updates.2 other apart ∙ h.exact other
  ];
}

-- ---- All namings

module _ (configs : List LoadedConfig) (classes : List LoadedClass) (side : Side) (namings : List AppliedMixin) (named : (mixin : AppliedMixin) → Contains namings mixin ↔ IsNaming configs classes side mixin) (mixins : List AppliedMixin) (h : AreFirsts namings mixins) where
  naming : (mixin : AppliedMixin) → Contains mixins mixin → IsNaming configs classes side mixin
  naming mixin there = (named mixin).0 (All-contains (Contains namings) mixins mixin h.each there)

  one-naming : (x y : AppliedMixin) → IsNaming configs classes side x → IsNaming configs classes side y → SameKey x y → x ≡ y
  one-naming x y is is' same = naming-one configs classes side x y is is' same.by_config same.by_entry

  at-place : (k : ℕ) (d : AppliedMixin) → k < length mixins → Contains mixins (get_or mixins k d)
  at-place k d inside = (k, inside, get_or_default mixins k (get_or mixins k d) d inside)

  pub are-ordered : AreOrdered mixins
  are-ordered i j d below inside = elim (key-cases (get_or mixins i d) (get_or mixins j d)) [
    | inl before ↦ before
    | inr (inr after) ↦ absurd (h.ordered i j d below inside after)
    | inr (inl same) ↦ absurd (h.apart i j d below inside (ap (λ (m : AppliedMixin). m.class_place)
        (one-naming (get_or mixins i d) (get_or mixins j d) (naming (get_or mixins i d) (at-place i d (omega arith))) (naming (get_or mixins j d) (at-place j d inside)) same)))
  ]

  applied : (mixin : AppliedMixin) → Contains mixins mixin → IsApplied configs classes side mixin
  applied mixin (j, in_j, at_j) = record {
    named = naming mixin (j, in_j, at_j);
    least = λ other is same before.
        let (k, x, in_k, at_k, found) = All-contains (λ n. Any (λ m. (m.class_place ≡ n.class_place) × NotBefore m n) mixins) namings other h.least ((named other).1 is) in
        let one : x ≡ mixin = same-of-pairs (λ m o. m.class_place ≢ o.class_place) mixins h.apart k j x mixin in_k in_j at_k at_j (λ apart. apart (found.0 ∙ same)) (λ apart. apart (sym (found.0 ∙ same))) in
        found.1 (subst (IsBefore other) (sym one) before);
  }

  contained : (mixin : AppliedMixin) → IsApplied configs classes side mixin → Contains mixins mixin
  contained mixin is =
      let (k, x, in_k, at_k, found) = All-contains (λ n. Any (λ m. (m.class_place ≡ n.class_place) × NotBefore m n) mixins) namings mixin h.least ((named mixin).1 is.named) in
      let other = naming x (k, in_k, at_k) in
      elim (key-cases x mixin) [
        | inl before ↦ absurd (is.least x other found.0 before)
        | inr (inr after) ↦ absurd (found.1 after)
        | inr (inl same) ↦ subst (Contains mixins) (one-naming x mixin other is.named same) (k, in_k, at_k)
      ]

  pub are-applied : AreApplied configs classes side mixins
  are-applied mixin = (applied mixin, contained mixin)

-- the same namings in order are named too
pub sorted-named : (configs : List LoadedConfig) (classes : List LoadedClass) (side : Side) (namings sorted : List AppliedMixin) → IsSortedOf namings sorted → ((mixin : AppliedMixin) → Contains namings mixin ↔ IsNaming configs classes side mixin) → (mixin : AppliedMixin) → Contains sorted mixin ↔ IsNaming configs classes side mixin
sorted-named configs classes side namings sorted h named mixin = (
  λ there. (named mixin).0 (Contains-permutation sorted namings mixin (IsPermutation-sym namings sorted h.same) there),
  λ is. Contains-permutation namings sorted mixin h.same ((named mixin).1 is),
)

-- what is found is applied, and in order
pub all-applied : {V E : Type 0} (items : V → List AppliedMixin) (configs : List LoadedConfig) (classes : List LoadedClass) (side : Side) (sorted : List AppliedMixin) (r : Result V E) → ((mixin : AppliedMixin) → Contains sorted mixin ↔ IsNaming configs classes side mixin) → IfOk r (λ v. AreFirsts sorted (items v)) → IfOk r (λ v. AreApplied configs classes side (items v))
all-applied items configs classes side sorted (Err e) named h = tt
all-applied items configs classes side sorted (Ok v) named h = are-applied configs classes side sorted named (items v) h

pub all-ordered : {V E : Type 0} (items : V → List AppliedMixin) (configs : List LoadedConfig) (classes : List LoadedClass) (side : Side) (sorted : List AppliedMixin) (r : Result V E) → ((mixin : AppliedMixin) → Contains sorted mixin ↔ IsNaming configs classes side mixin) → IfOk r (λ v. AreFirsts sorted (items v)) → IfOk r (λ v. AreOrdered (items v))
all-ordered items configs classes side sorted (Err e) named h = tt
all-ordered items configs classes side sorted (Ok v) named h = are-ordered configs classes side sorted named (items v) h
