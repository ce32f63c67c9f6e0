-- Sorts by a text of each element.
use Rattle.std.proofs.Common.{◌≡◌, ℕ, Bool, List, Result, Ok, Err, OnOk, IsPermutation, ap}
use Rattle.std.specs.Borrow.{Bor}
use Rattle.std.specs.Cmp.{IsStrictWeakOrder}
use Rattle.std.specs.Fn.{Called, ComparesAs}
use Rattle.std.specs.Ordering.{nat_cmp, is_lt}
use Rattle.std.specs.declared.cmp.Ordering.{Ordering}
use Rattle.std.specs.Cmp.Lexicographic.{slice_cmp}
use Rattle.std.specs.List.Sorted.{IsSortedByClosure, IsStableByClosure}
use Rattle.std.proofs.lemmas.Cmp.{nat_list_cmp_total}
use Rattle.std.proofs.lemmas.Fn.{always_returns_same}
use Rattle.std.proofs.lemmas.List.Sorted.{ranks_by}
use Rattle.wv_resolve.specs.Resolution.{IsOrderedBy}
use denote.Param.Members.{Mut}

-- what a sort ensures whose closure compares the texts
pub ordered-by : {F X E : Type 0} (g : Mut F (Bor X × (Bor X × Unit {0})) Ordering) (f : F) (key : X → List ℕ) (xs ys : List X) (r : Result (Unit {0}) E) → IsPermutation xs ys → OnOk r (IsSortedByClosure g f ys) → IsStableByClosure g f xs ys → ((a : Bor X × (Bor X × Unit {0})) (o : Ordering) (f' : F) → Called g f a o f' → (o ≡ slice_cmp nat_cmp (key a.0.now) (key a.1.0.now)) × (f' ≡ f)) → OnOk r (IsOrderedBy key xs ys)
ordered-by g f key xs ys (Err e) same sorted stable says = tt
ordered-by {F} {X} {E} g f key xs ys (Ok x) same sorted stable says = record { same = same; ordered = sorted lt weak compares; stable = stable lt weak compares }
  where
    lt : X → X → Bool
    lt a b = is_lt (slice_cmp nat_cmp (key a) (key b))

    weak : IsStrictWeakOrder lt
    weak = ranks_by nat_list_cmp_total key

    compares : ComparesAs g lt f
    compares = always_returns_same _ _ _ (λ a o f' k. (ap is_lt (says a o f' k).0, (says a o f' k).1))
