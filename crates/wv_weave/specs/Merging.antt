-- What is known of mixins and their targets as they are merged in turn (our own).
use Rattle.std.specs.Prelude.{ℕ, List, Option, MatchOption}
use Rattle.std.specs.List.{AllZip}
use Rattle.wv_classes.specs.declared.loaded_class.LoadedClass.{LoadedClass}
use Rattle.wv_front.specs.declared.order.AppliedMixin.{AppliedMixin}
use Rattle.wv_front.specs.MixinOrder.{StandsAt}
use Rattle.wv_merge.specs.declared.overwriting.Overwriting.{Overwriting}
use Rattle.wv_merge.specs.Overwriting.{IsOverwriting}
use Rattle.wv_weave.specs.Overwrites.{Joins}
use Rattle.wv_weave.specs.WrittenClasses.{IsAppliedTo}

-- the mixin has a class
abbrev pub HasPlace : List LoadedClass → AppliedMixin → Type 0
HasPlace classes mixin = (class : LoadedClass) × StandsAt classes mixin.class_place class

-- the place is that of the mixin's target, in which the mixin overwrites this
abbrev pub IsEdit : List LoadedClass → AppliedMixin → ℕ × Overwriting → Type 0
IsEdit classes mixin edit =
    (class : LoadedClass) × (target : LoadedClass) × Joins classes mixin class target × StandsAt classes edit.0 target
    × IsOverwriting target.class class.class edit.1

-- one of the mixins overwrites this in the target
abbrev pub Overwrites : List LoadedClass → List AppliedMixin → LoadedClass → Overwriting → Type 0
Overwrites classes mixins target overwriting =
    (class : LoadedClass) × IsAppliedTo classes mixins target class × IsOverwriting target.class class.class overwriting

-- what is overwritten in the class: nothing where no mixin is applied to it
abbrev pub IsEditOf : List LoadedClass → List AppliedMixin → LoadedClass → Option Overwriting → Type 0
IsEditOf classes mixins target edit =
    MatchOption edit ((class : LoadedClass) → IsAppliedTo classes mixins target class → ⊥) (Overwrites classes mixins target)

-- and in each of the classes
abbrev pub AreEdits : List LoadedClass → List AppliedMixin → List (Option Overwriting) → Type 0
AreEdits classes mixins edits = AllZip (IsEditOf classes mixins) classes edits
