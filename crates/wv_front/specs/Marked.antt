-- Mixins whose classes haven't exactly one `@Mixin` (Mixin 0.8.5; what is refused is our own).
use Rattle.std.specs.Prelude.{◌≡◌, ℕ, List, codes}
use Rattle.std.specs.List.{AllByRecursion, count_by}
use Rattle.wv_base.specs.declared.broken.Broken.{Broken}
use Rattle.wv_base.specs.declared.class_file.ClassFile.{ClassFile}
use Rattle.wv_base.specs.declared.rule.Rule.TheVariants.{MixinBad}
use Rattle.wv_classes.specs.declared.loaded_class.LoadedClass.{LoadedClass}
use Rattle.wv_resolve.specs.Refusal.{IsFirst, broken_at}
use Rattle.wv_front.specs.declared.order.AppliedMixin.{AppliedMixin}
use Rattle.wv_front.specs.Marks.{is_mixin_note}
use Rattle.wv_front.specs.MixinOrder.{StandsAt}

-- one annotation of the class is `@Mixin`
abbrev pub HasOneMark : ClassFile → Type 0
HasOneMark class = count_by is_mixin_note class.notes ≡ 1

-- the class of the mixin has exactly one
abbrev pub IsMarked : List LoadedClass → AppliedMixin → Type 0
IsMarked classes mixin = (class : LoadedClass) → StandsAt classes mixin.class_place class → HasOneMark class.class

abbrev pub AreMarked : List LoadedClass → List AppliedMixin → Type 0
AreMarked classes mixins = AllByRecursion (IsMarked classes) mixins

-- this class of the mixin has none or several
abbrev pub IsMarklessClass : List LoadedClass → AppliedMixin → LoadedClass → Type 0
IsMarklessClass classes mixin class = StandsAt classes mixin.class_place class × (HasOneMark class.class → ⊥)

-- rule 40, its first way: what is said of a class file
abbrev pub markless_at : List ℕ → Broken
markless_at path = broken_at MixinBad path (codes "-") (codes "Mixin")

abbrev pub IsMarkless : List LoadedClass → Broken → AppliedMixin → Type 0
IsMarkless classes broken mixin =
    (class : LoadedClass) × IsMarklessClass classes mixin class × (broken ≡ markless_at class.path)

-- the first of the mixins in their order
abbrev pub IsFirstMarkless : List LoadedClass → List AppliedMixin → Broken → Type 0
IsFirstMarkless classes mixins broken =
    (mixin : AppliedMixin) × IsFirst (IsMarked classes) (IsMarkless classes broken) mixins mixin
