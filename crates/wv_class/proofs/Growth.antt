-- What a pool becomes as the constants of a class are put into it, part by part.
use Rattle.std.proofs.Common.{◌≡◌, ℕ, ◌+◌, ◌<◌, List, [], ◌∷◌, ◌++◌, length, get_or, take, drop, Result, Ok, Err, refl, sym, ap, subst, ◌∙◌, ◌⊎◌, inl, inr}
use Rattle.std.specs.Prelude.{IsErrAnd}
use Rattle.std.proofs.lemmas.List.{append_assoc, append-nil, take_more}
use Rattle.wv_base.specs.declared.class_file.PoolEntry.{PoolEntry}
use Rattle.wv_base.specs.declared.constant.Const.{Const}
use Rattle.wv_pool.specs.declared.add.PoolFault.{PoolFault}
use Rattle.wv_pool.specs.declared.add.PoolFault.TheVariants as faults
use Rattle.wv_pool.specs.Adding.{needs, AreTooMany, Keeps, Grows}
use Rattle.wv_pool.proofs.Lacking.{keeps_then}
use Rattle.wv_attr.proofs.PoolGrowth.{grows_then, too_many_then, too_many_more}
use Rattle.wv_code.proofs.Lists.{split_at}
use Rattle.wv_pool.specs.References.{IsPool}
use Rattle.wv_pool.specs.Numbers.{Named}
use Rattle.wv_class.specs.Enterable.{PutsAll}
use Rattle.wv_class.proofs.NamedParts.{parts_named}
use Rattle.wv_class.proofs.Unchanged.{grows_same}

-- ---- One part after the other

err_is : (r : Result (Unit {0}) PoolFault) (e : PoolFault) → IsErrAnd r (λ x. x ≡ e) → r ≡ Err e
err_is (Ok t) e h = absurd h
err_is (Err x) e h = ap (λ (y : PoolFault). Err y) h

pub puts_then : (a b d : List PoolEntry) (xs ys : List Const) (r : Result (Unit {0}) PoolFault) → Grows a xs b → PutsAll b d ys r → PutsAll a d (ys ++ xs) r
puts_then a b d xs ys (Ok t) g h = grows_then a b d xs ys g h
puts_then a b d xs ys (Err faults.Full) g h = (keeps_then a b d (g.more, g.longer) h.0, too_many_then a b xs ys g h.1)
puts_then a b d xs ys (Err faults.Memory) g h = keeps_then a b d (g.more, g.longer) h

-- a fault stays one with other constants behind
pub failed_more : (a b : List PoolEntry) (xs ys : List Const) (e : PoolFault) → PutsAll a b xs (Err e) → PutsAll a b (ys ++ xs) (Err e)
failed_more a b xs ys faults.Full h = (h.0, too_many_more a ys xs h.1)
failed_more a b xs ys faults.Memory h = h

-- the fault of a part is that of the whole
pub puts_failed : (a b : List PoolEntry) (xs ys : List Const) (e : PoolFault) (r : Result (Unit {0}) PoolFault) → IsErrAnd r (λ x. x ≡ e) → PutsAll a b xs (Err e) → PutsAll a b (ys ++ xs) r
puts_failed a b xs ys e r given h = subst (PutsAll a b (ys ++ xs)) (sym (err_is r e given)) (failed_more a b xs ys e h)

-- ---- A list of parts, of which each needs constants

module _ {X : Type 0} (f : X → List Const) (g : List X → List Const) (nil : g [] ≡ []) (cons : (x : X) (xs : List X) → g (x ∷ xs) ≡ g xs ++ f x) where
  one_alone : (x : X) → g (x ∷ []) ≡ f x
  one_alone x = cons x [] ∙ ap (λ (t : List Const). t ++ f x) nil

  both_need : (xs ys : List X) → g (xs ++ ys) ≡ g ys ++ g xs
  both_need [] ys = sym (append-nil (g ys)) ∙ ap (λ (t : List Const). g ys ++ t) (sym nil)
  both_need (x ∷ xs) ys = cons x (xs ++ ys) ∙ ap (λ (t : List Const). t ++ f x) (both_need xs ys) ∙ append_assoc (g ys) (g xs) (f x) ∙ ap (λ (t : List Const). g ys ++ t) (sym (cons x xs))

  module _ (old middle new : List PoolEntry) (xs : List X) (i : ℕ) (x : X) (within : i < length xs) (is : x ≡ get_or xs i x) (so_far : Grows old (g (take i xs)) middle) where
    next_needs : g (take (i + 1) xs) ≡ f x ++ g (take i xs)
    next_needs = ap g (take_more xs i x within) ∙ both_need (take i xs) (get_or xs i x ∷ []) ∙ ap (λ (t : List Const). t ++ g (take i xs)) (one_alone (get_or xs i x) ∙ ap f (sym is))

    all_need : g xs ≡ g (drop (i + 1) xs) ++ (f x ++ g (take i xs))
    all_need =
        ap g (split_at xs i x within) ∙ both_need (take i xs) (get_or xs i x ∷ drop (i + 1) xs)
        ∙ ap (λ (t : List Const). t ++ g (take i xs)) (cons (get_or xs i x) (drop (i + 1) xs) ∙ ap (λ (y : X). g (drop (i + 1) xs) ++ f y) (sym is))
        ∙ append_assoc (g (drop (i + 1) xs)) (f x) (g (take i xs))

    -- one part more
    pub next_put : Grows middle (f x) new → Grows old (g (take (i + 1) xs)) new
    next_put h = subst (λ (cs : List Const). Grows old cs new) (sym next_needs) (grows_then old middle new (g (take i xs)) (f x) so_far h)

    -- where a part fails, all do
    pub next_failed : (e : PoolFault) (r : Result (Unit {0}) PoolFault) → IsErrAnd r (λ y. y ≡ e) → PutsAll middle new (f x) (Err e) → PutsAll old new (g xs) r
    next_failed e r given h =
        subst (λ (cs : List Const). PutsAll old new cs r) (sym all_need)
        (puts_failed old new (f x ++ g (take i xs)) (g (drop (i + 1) xs)) e r given (puts_then old middle new (g (take i xs)) (f x) (Err e) so_far h))

-- a constant that was put into a sound pool is there with those behind it
pub added : (old new : List PoolEntry) (c : Const) → IsPool old → (Named old c → new ≡ old) → Named old c ⊎ Grows old (needs c) new → Grows old (needs c) new
added old new c sound same (inl there) = subst (Grows old (needs c)) (sym (same there)) (grows_same old sound (needs c) (parts_named old c sound there))
added old new c sound same (inr grows) = grows
