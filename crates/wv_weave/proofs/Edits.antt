-- What is overwritten in each class, as one mixin more is merged.
use Rattle.std.proofs.Common.{◌≡◌, ◌≢◌, inl, inr, ℕ, zero, suc, ◌+◌, ◌<◌, ◌≤◌, List, [], ◌∷◌, ◌++◌, length, get_or, set, take, replicate, AllPairs, Contains, Option, Some, None, refl, ap, sym, ◌∙◌, subst, arith}
use Rattle.std.specs.List.{AllByRecursion, AllZip}
use Rattle.std.proofs.lemmas.List.{take_all}
use Rattle.std.proofs.lemmas.List.Elements.{Contains-append_left, Contains-push, Contains-push_cases}
use Rattle.wv_classes.specs.declared.loaded_class.LoadedClass.{LoadedClass}
use Rattle.wv_form.specs.FileForm.{HasTarget}
use Rattle.wv_front.specs.declared.order.AppliedMixin.{AppliedMixin}
use Rattle.wv_front.specs.MixinOrder.{StandsAt}
use Rattle.wv_front.proofs.Grown.{stands-one}
use Rattle.wv_merge.specs.declared.overwriting.Overwriting.{Overwriting}
use Rattle.wv_resolve.proofs.Lists.{front-more}
use Rattle.wv_weave.specs.Merging.{AreEdits, IsEdit, IsEditOf}
use Rattle.wv_weave.specs.Overwrites.{FindAll, FindsAll, Joins}
use Rattle.wv_weave.specs.WrittenClasses.{IsAppliedTo}
use Rattle.wv_weave.proofs.WovenMeaning.{one-target_name}

-- before any mixin nothing is overwritten
pub no-edits : (whole classes : List LoadedClass) → AllZip (IsEditOf whole []) classes (replicate (length classes) None)
no-edits whole [] = tt
no-edits whole (c ∷ classes) = ((λ class (mixin, (k, inside, at), joins). absurd (omega arith)), no-edits whole classes)

module _ (whole : List LoadedClass) (done : List AppliedMixin) (mixin : AppliedMixin) where
  abbrev more : List AppliedMixin
  more = done ++ mixin ∷ []

  -- a class that the mixin doesn't have as its target keeps what it has
  other-edit : (c : LoadedClass) (edit : Option Overwriting) → ((class : LoadedClass) → Joins whole mixin class c → ⊥) → IsEditOf whole done c edit → IsEditOf whole more c edit
  other-edit c None apart none = λ class (m, in_more, joins). elim (Contains-push_cases done mixin m in_more) [
    | inl earlier ↦ none class (m, earlier, joins)
    | inr same ↦ apart class (subst (λ (x : AppliedMixin). Joins whole x class c) (sym same) joins)
  ]
  other-edit c (Some overwriting) apart (class, (m, in_done, joins), is) = (class, (m, Contains-append_left done (mixin ∷ []) m in_done, joins), is)

  -- two classes of other names aren't both its target
  one-joined : (class other c d : LoadedClass) → c.name ≢ d.name → Joins whole mixin class c → Joins whole mixin other d → ⊥
  one-joined class other c d apart joins joins' =
      let same : other ≡ class = stands-one whole mixin.class_place mixin.class_place other class refl joins'.class_is joins.class_is in
      apart (one-target_name class.class c.name d.name joins.names (subst (λ (x : LoadedClass). HasTarget x.class d.name) same joins'.names))

  module _ (class target : LoadedClass) (overwriting : Overwriting) (joins : Joins whole mixin class target) (this : IsEditOf whole more target (Some overwriting)) where
    others-kept : (cs : List LoadedClass) (edits : List (Option Overwriting)) → ((c : LoadedClass) → Contains cs c → target.name ≢ c.name) → AllZip (IsEditOf whole done) cs edits → AllZip (IsEditOf whole more) cs edits
    others-kept [] [] apart zip = tt
    others-kept [] (e ∷ edits) apart zip = elim zip [ ]
    others-kept (c ∷ cs) [] apart zip = elim zip [ ]
    others-kept (c ∷ cs) (e ∷ edits) apart (one, later) = (
      other-edit c e (λ other joins'. one-joined class other target c (apart c (0, omega arith, refl)) joins joins') one,
      others-kept cs edits (λ d (k, inside, at). apart d (suc k, omega arith, at)) later,
    )

    edits-set : (cs : List LoadedClass) (edits : List (Option Overwriting)) (place : ℕ) → AllPairs (λ (c later : LoadedClass). c.name ≢ later.name) cs
        → StandsAt cs place target → AllZip (IsEditOf whole done) cs edits → AllZip (IsEditOf whole more) cs (set edits place (Some overwriting))
    edits-set [] edits place distinct (inside, at) zip = absurd (omega arith)
    edits-set (c ∷ cs) [] place distinct stands zip = elim zip [ ]
    edits-set (c ∷ cs) (e ∷ edits) zero distinct (inside, at) (one, later) = (
      subst (λ (x : LoadedClass). IsEditOf whole more x (Some overwriting)) (sym at) this,
      others-kept cs edits (λ d (k, within, there). λ same. distinct 0 (suc k) d (omega arith) (omega arith) (ap (λ (x : LoadedClass). x.name) at ∙ same ∙ sym (ap (λ (x : LoadedClass). x.name) there))) later,
    )
    edits-set (c ∷ cs) (e ∷ edits) (suc place) distinct (inside, at) (one, later) = (
      other-edit c e (λ other joins'. one-joined other class c target
          (λ same. distinct 0 (suc place) target (omega arith) (omega arith) (same ∙ sym (ap (λ (x : LoadedClass). x.name) at))) joins' joins) one,
      edits-set cs edits place (λ i j d below within. distinct (suc i) (suc j) d (omega arith) (omega arith)) (omega arith, at) later,
    )

-- one mixin more
pub edits-more : (whole : List LoadedClass) (done : List AppliedMixin) (mixin : AppliedMixin) (edits : List (Option Overwriting)) (place : ℕ) (overwriting : Overwriting)
    → AllPairs (λ (c later : LoadedClass). c.name ≢ later.name) whole → IsEdit whole mixin (place, overwriting)
    → AreEdits whole done edits → AreEdits whole (done ++ mixin ∷ []) (set edits place (Some overwriting))
edits-more whole done mixin edits place overwriting distinct (class, target, joins, stands, is) are =
    edits-set whole done mixin class target overwriting joins (class, (mixin, Contains-push done mixin, joins), is) whole edits place distinct stands are

pub replicate-more : {A : Type 0} (n : ℕ) (x : A) → replicate n x ++ x ∷ [] ≡ replicate (n + 1) x
replicate-more zero x = refl
replicate-more (suc n) x = ap (λ xs. x ∷ xs) (replicate-more n x) ∙ ap (λ k. replicate k x) {x = suc (n + 1)} {y = suc n + 1} (omega arith)

-- ---- The loop over the mixins

pub edits-init : (classes : List LoadedClass) (edits : List (Option Overwriting)) → edits ≡ replicate (length classes) None → AreEdits classes [] edits
edits-init classes edits is = subst (AllZip (IsEditOf classes []) classes) (sym is) (no-edits classes classes)

found-more : (classes : List LoadedClass) (mixins : List AppliedMixin) (mixin : AppliedMixin) → FindsAll classes mixin → AllByRecursion (FindsAll classes) mixins → AllByRecursion (FindsAll classes) (mixins ++ mixin ∷ [])
found-more classes [] mixin one h = (one, tt)
found-more classes (m ∷ mixins) mixin one (first, more) = (first, found-more classes mixins mixin one more)

pub edits-next : (classes : List LoadedClass) (mixins : List AppliedMixin) (i : ℕ) (mixin : AppliedMixin) (edits : List (Option Overwriting)) (place : ℕ) (overwriting : Overwriting)
    → AllPairs (λ (c later : LoadedClass). c.name ≢ later.name) classes → i < length mixins → mixin ≡ get_or mixins i mixin → IsEdit classes mixin (place, overwriting) → FindsAll classes mixin
    → AreEdits classes (take i mixins) edits × FindAll classes (take i mixins)
    → AreEdits classes (take (i + 1) mixins) (set edits place (Some overwriting)) × FindAll classes (take (i + 1) mixins)
edits-next classes mixins i mixin edits place overwriting distinct inside at edit finds (are, found) =
    let front : take (i + 1) mixins ≡ take i mixins ++ mixin ∷ [] = front-more mixins i mixin inside at in (
      subst (λ ms. AreEdits classes ms (set edits place (Some overwriting))) (sym front) (edits-more classes (take i mixins) mixin edits place overwriting distinct edit are),
      subst (FindAll classes) (sym front) (found-more classes (take i mixins) mixin finds found),
    )

pub edits-all : (classes : List LoadedClass) (mixins : List AppliedMixin) (i : ℕ) (edits : List (Option Overwriting)) → length mixins ≤ i → AreEdits classes (take i mixins) edits → AreEdits classes mixins edits
edits-all classes mixins i edits past h = subst (λ ms. AreEdits classes ms edits) (take_all i mixins past) h

pub found-all : (classes : List LoadedClass) (mixins : List AppliedMixin) (i : ℕ) → length mixins ≤ i → FindAll classes (take i mixins) → FindAll classes mixins
found-all classes mixins i past h = subst (FindAll classes) (take_all i mixins past) h
