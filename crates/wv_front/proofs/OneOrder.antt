-- Mixins have one order, in which each has the number of those before it.
use Rattle.std.proofs.Common.{◌≡◌, ◌≢◌, inl, inr, ℕ, ◌<◌, List, length, get_or, take, AllPairs, Contains, ap, sym, ◌∙◌, subst, arith, length-take}
use Rattle.std.proofs.lemmas.Bool.{cases_order}
use Rattle.std.proofs.lemmas.List.{get_or_default, get_or-take}
use Rattle.wv_base.specs.declared.side.Side.{Side}
use Rattle.wv_classes.specs.declared.loaded_class.LoadedClass.{LoadedClass}
use Rattle.wv_config.specs.declared.loaded.LoadedConfig.{LoadedConfig}
use Rattle.wv_resolve.proofs.OneMods.{same-ordered}
use Rattle.wv_front.specs.declared.order.AppliedMixin.{AppliedMixin}
use Rattle.wv_front.specs.MixinOrder.{StandsAt, IsBefore, IsApplied, AreApplied, AreOrdered, HasSmaller}
use Rattle.wv_front.proofs.Keys.{one-way}

pub one-order : (configs : List LoadedConfig) (classes : List LoadedClass) (side : Side) (mixins other : List AppliedMixin) → AreApplied configs classes side mixins → AreOrdered mixins → AreApplied configs classes side other → AreOrdered other → mixins ≡ other
one-order configs classes side mixins other applied ordered applied' ordered' =
    same-ordered IsBefore one-way mixins other ordered ordered' (λ m there. (applied' m).1 ((applied m).0 there)) (λ m there. (applied m).1 ((applied' m).0 there))

module _ (configs : List LoadedConfig) (classes : List LoadedClass) (side : Side) (mixins : List AppliedMixin) (applied : AreApplied configs classes side mixins) (ordered : AreOrdered mixins) (k : ℕ) (mixin : AppliedMixin) (stands : StandsAt mixins k mixin) where
  -- which are before it, by their places
  before-it : (j : ℕ) (other : AppliedMixin) → j < k → get_or mixins j other ≡ other → IsBefore other mixin
  before-it j other below at =
      subst (λ (m : AppliedMixin). IsBefore m mixin) at
      (subst (IsBefore (get_or mixins j other)) (get_or_default mixins k other mixin stands.0 ∙ stands.1) (ordered j k other below stands.0))

  after-it : (j : ℕ) (other : AppliedMixin) → k < j → j < length mixins → get_or mixins j other ≡ other → IsBefore mixin other
  after-it j other above inside at =
      subst (IsBefore mixin) at
      (subst (λ (m : AppliedMixin). IsBefore m (get_or mixins j other)) (get_or_default mixins k other mixin stands.0 ∙ stands.1) (ordered k j other above inside))

  into : (other : AppliedMixin) → Contains (take k mixins) other → IsApplied configs classes side other × IsBefore other mixin
  into other (j, inside, at) =
      let below : j < k = omega (arith, length-take k mixins) in
      let within : j < length mixins = omega (arith, length-take k mixins) in
      let whole : get_or mixins j other ≡ other = sym (get_or-take k mixins j other below) ∙ at in
      ((applied other).0 (j, within, whole), before-it j other below whole)

  from : (other : AppliedMixin) → IsApplied configs classes side other × IsBefore other mixin → Contains (take k mixins) other
  from other (is, before) = place ((applied other).1 is)
    where
      place : Contains mixins other → Contains (take k mixins) other
      place (j, inside, at) = elim (cases_order j k) [
        | inr (inl below) ↦ (j, omega (arith, length-take k mixins), get_or-take k mixins j other below ∙ at)
        | inr (inr above) ↦ absurd (one-way other mixin before (after-it j other above inside at))
        | inl same ↦
            let one : other ≡ mixin = sym at ∙ get_or_default mixins j other mixin inside ∙ ap (λ n. get_or mixins n mixin) same ∙ stands.1 in
            absurd (one-way other mixin before (subst (λ (m : AppliedMixin). IsBefore m other) one (subst (IsBefore other) (sym one) before)))
      ]

  apart : AllPairs (λ one other. one ≢ other) (take k mixins)
  apart i j d below inside same =
      let last : j < k = omega (arith, length-take k mixins) in
      let within : j < length mixins = omega (arith, length-take k mixins) in
      let before : IsBefore (get_or mixins i d) (get_or mixins j d) = ordered i j d below within in
      let one : get_or mixins i d ≡ get_or mixins j d = sym (get_or-take k mixins i d (omega arith)) ∙ same ∙ get_or-take k mixins j d last in
      let itself : IsBefore (get_or mixins j d) (get_or mixins j d) = subst (λ (m : AppliedMixin). IsBefore m (get_or mixins j d)) one before in
      one-way (get_or mixins j d) (get_or mixins j d) itself itself

  pub number-of : HasSmaller configs classes side mixin k
  number-of = record {
    smaller = take k mixins;
    number = (let inside = stands.0 in omega (arith, length-take k mixins));
    distinct = apart;
    exact = λ other. (into other, from other);
  }
