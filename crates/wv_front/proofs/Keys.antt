-- The order of mixins by their keys.
use Rattle.std.proofs.Common.{◌≡◌, ◌⊎◌, inl, inr, ◌<ℤ◌, ℤ, Bool, List, get_or, AllPairs, IsPermutation, Result, Ok, Err, OnOk, refl, ap, sym, ◌∙◌, arith, true≢false}
use Rattle.std.specs.Borrow.{Bor}
use Rattle.std.specs.Cmp.{IsTotalOrder, IsStrictWeakOrder, int_cmp_is, int_ranks, nat_cmp_is}
use Rattle.std.specs.Fn.{Called, ComparesAs}
use Rattle.std.specs.List.Sorted.{IsSortedBy, IsSortedByClosure}
use Rattle.std.specs.Ordering.{int_cmp, ordering_reverse, is_lt, MatchOrdering}
use Rattle.std.specs.declared.cmp.Ordering.{Ordering}
use Rattle.std.specs.declared.cmp.Ordering.TheVariants.{Less, Equal, Greater}
use Rattle.std.proofs.lemmas.Bool.{cases_order}
use Rattle.std.proofs.lemmas.Cmp.{int_cmp_total, nat_cmp_total, on_total, then_total}
use Rattle.std.proofs.lemmas.Fn.{always_returns_same}
use Rattle.std.proofs.lemmas.List.MinMax.{ranks_by}
use Rattle.std.proofs.lemmas.List.Sorted.{sorted_far}
use denote.Param.Members.{Mut}
use Rattle.wv_front.specs.declared.order.AppliedMixin.{AppliedMixin}
use Rattle.wv_front.specs.MixinOrder.{IsBefore, key_cmp}
use Rattle.wv_front.specs.Naming.{NotBefore, IsSortedOf}

-- both keys are the same
pub record SameKey (mixin other : AppliedMixin) : Type 0 where
  pub by_priority : mixin.priority ≡ other.priority
  pub by_config : mixin.config_place ≡ other.config_place
  pub by_entry : mixin.entry_place ≡ other.entry_place

keys_total : IsTotalOrder key_cmp
keys_total = then_total (then_total (on_total (λ (m : AppliedMixin). m.priority) int_cmp_total) (on_total (λ (m : AppliedMixin). m.config_place) nat_cmp_total)) (on_total (λ (m : AppliedMixin). m.entry_place) nat_cmp_total)

-- a lesser key compares so
before-less : (mixin other : AppliedMixin) → IsBefore mixin other → key_cmp mixin other ≡ Less
before-less mixin other (inl below) = rw (sym (int_cmp_is mixin.priority other.priority Less below)) refl
before-less mixin other (inr (same, inl below)) =
    rw (sym (int_cmp_is mixin.priority other.priority Equal same), sym (nat_cmp_is mixin.config_place other.config_place Less below)) refl
before-less mixin other (inr (same, inr (same', below))) =
    rw (sym (int_cmp_is mixin.priority other.priority Equal same), sym (nat_cmp_is mixin.config_place other.config_place Equal same'), sym (nat_cmp_is mixin.entry_place other.entry_place Less below)) refl

not-both : (r s : Ordering) → r ≡ ordering_reverse s → r ≡ Less → s ≡ Less → ⊥
not-both r s turned e f = true≢false (sym (ap is_lt e) ∙ ap is_lt (turned ∙ ap ordering_reverse f))

-- of two keys one alone is before the other
pub one-way : (mixin other : AppliedMixin) → IsBefore mixin other → IsBefore other mixin → ⊥
one-way mixin other h k = not-both (key_cmp mixin other) (key_cmp other mixin) (keys_total.antisymm mixin other) (before-less mixin other h) (before-less other mixin k)

int-cases : (x y : ℤ) → (x <ℤ y) ⊎ ((x ≡ y) ⊎ (y <ℤ x))
int-cases x y = of (int_cmp x y) (int_ranks x y)
  where
    of : (r : Ordering) → MatchOrdering r (x <ℤ y) (x ≡ y) (y <ℤ x) → (x <ℤ y) ⊎ ((x ≡ y) ⊎ (y <ℤ x))
    of Less h = inl h
    of Equal h = inr (inl h)
    of Greater h = inr (inr h)

-- one key is before the other, or both are the same
pub key-cases : (mixin other : AppliedMixin) → IsBefore mixin other ⊎ (SameKey mixin other ⊎ IsBefore other mixin)
key-cases mixin other = elim (int-cases mixin.priority other.priority) [
  | inl below ↦ inl (inl below)
  | inr (inr above) ↦ inr (inr (inl above))
  | inr (inl same) ↦ elim (cases_order mixin.config_place other.config_place) [
    | inr (inl below) ↦ inl (inr (same, inl below))
    | inr (inr above) ↦ inr (inr (inr (sym same, inl above)))
    | inl same' ↦ elim (cases_order mixin.entry_place other.entry_place) [
      | inr (inl below) ↦ inl (inr (same, inr (same', below)))
      | inr (inr above) ↦ inr (inr (inr (sym same, inr (sym same', above))))
      | inl same'' ↦ inr (inl (record { by_priority = same; by_config = same'; by_entry = same'' }))
    ]
  ]
]

less : AppliedMixin → AppliedMixin → Bool
less mixin other = is_lt (key_cmp mixin other)

weak : IsStrictWeakOrder less
unfolding less
weak = ranks_by keys_total (λ (m : AppliedMixin). m)

-- in a sorted list none is before an earlier one
none-before : (sorted : List AppliedMixin) → IsSortedBy less sorted → AllPairs NotBefore sorted
unfolding less
none-before sorted up i j d below inside before =
    true≢false (sym (ap is_lt (before-less (get_or sorted j d) (get_or sorted i d) before)) ∙ sorted_far less weak sorted up i j d (omega arith) inside)

-- what a sort ensures whose closure compares the keys
pub sorted-by_key : {F E : Type 0} (g : Mut F (Bor AppliedMixin × (Bor AppliedMixin × Unit {0})) Ordering) (f : F) (xs ys : List AppliedMixin) (r : Result (Unit {0}) E) → IsPermutation xs ys → OnOk r (IsSortedByClosure g f ys) → ((a : Bor AppliedMixin × (Bor AppliedMixin × Unit {0})) (o : Ordering) (f' : F) → Called g f a o f' → (o ≡ key_cmp a.0.now a.1.0.now) × (f' ≡ f)) → OnOk r (IsSortedOf xs ys)
unfolding less
sorted-by_key g f xs ys (Err e) same sorted says = tt
sorted-by_key {F} {E} g f xs ys (Ok x) same sorted says = record { same = same; ordered = none-before ys (sorted less weak compares) }
  where
    compares : ComparesAs g less f
    compares = always_returns_same _ _ _ (λ a o f' k. (ap is_lt (says a o f' k).0, (says a o f' k).1))
