-- The targets of mixins, and mixins whose method their target lacks (Mixin 0.8.5, @Overwrite).
use Rattle.std.specs.Prelude.{◌≡◌, ℕ, List, Contains}
use Rattle.std.specs.List.{AllByRecursion}
use Rattle.wv_base.specs.declared.broken.Broken.{Broken}
use Rattle.wv_classes.specs.declared.loaded_class.LoadedClass.{LoadedClass}
use Rattle.wv_form.specs.FileForm.{HasTarget}
use Rattle.wv_front.specs.declared.order.AppliedMixin.{AppliedMixin}
use Rattle.wv_front.specs.MixinOrder.{StandsAt}
use Rattle.wv_merge.specs.Merging.{IsMissing, NoneMissing}
use Rattle.wv_resolve.specs.Refusal.{IsFirst}

-- the class is that of the mixin, and this other one is its target
pub record Joins (classes : List LoadedClass) (mixin : AppliedMixin) (class target : LoadedClass) : Type 0 where
  pub class_is : StandsAt classes mixin.class_place class
  pub among : Contains classes target
  pub names : HasTarget class.class target.name

-- the target has each method that the mixin overwrites
abbrev pub FindsAll : List LoadedClass → AppliedMixin → Type 0
FindsAll classes mixin =
    (class target : LoadedClass) → Joins classes mixin class target → NoneMissing target.class class.class

-- rule 51: the target lacks one
abbrev pub LacksOne : List LoadedClass → Broken → AppliedMixin → Type 0
LacksOne classes broken mixin =
    (class : LoadedClass) × (target : LoadedClass) × Joins classes mixin class target
    × IsMissing class.path target.class class.class broken

-- each mixin finds what it overwrites, or this is the first that doesn't
abbrev pub FindAll : List LoadedClass → List AppliedMixin → Type 0
FindAll classes mixins = AllByRecursion (FindsAll classes) mixins

abbrev pub IsFirstLacking : List LoadedClass → List AppliedMixin → Broken → Type 0
IsFirstLacking classes mixins broken =
    (mixin : AppliedMixin) × IsFirst (FindsAll classes) (LacksOne classes broken) mixins mixin
