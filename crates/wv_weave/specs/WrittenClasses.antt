-- The classes that are written, and the mixins that are applied to them (Mixin 0.8.5; where they are put is our own).
use Rattle.std.specs.Prelude.{◌≡◌, ℕ, List, ◌++◌, map, Any, AllPairs, Contains, Option, MatchOption, ◌↔◌, codes}
use Rattle.std.specs.List.{AllByRecursion}
use Rattle.wv_base.specs.Folder.{IsPathBefore}
use Rattle.wv_classes.specs.declared.loaded_class.LoadedClass.{LoadedClass}
use Rattle.wv_config.specs.declared.loaded.Configs.{Configs}
use Rattle.wv_front.specs.declared.order.AppliedMixin.{AppliedMixin}
use Rattle.wv_front.specs.Listed.{all_configs, class_names}
use Rattle.wv_weave.specs.Overwrites.{Joins}

-- a class that some configuration lists, used or not, is a mixin
abbrev pub IsMixinName : Configs → List ℕ → Type 0
IsMixinName configs name = Any (λ loaded. Contains (class_names loaded.config) name) (all_configs configs)

-- where a class is put
abbrev pub written_path : LoadedClass → List ℕ
written_path class = class.name ++ codes ".class"

-- the classes that are written are all that are no mixins, by the bytes of the paths under which they are put
pub record AreWrittenClasses (configs : Configs) (loaded classes : List LoadedClass) : Type 0 where
  pub ordered : AllPairs (λ class later. IsPathBefore (written_path class) (written_path later)) classes
  pub exact : (class : LoadedClass) → Contains classes class ↔ (Contains loaded class × (IsMixinName configs class.name → ⊥))

-- one of the mixins, which is of this class, is applied to the other
abbrev pub IsAppliedTo : List LoadedClass → List AppliedMixin → LoadedClass → LoadedClass → Type 0
IsAppliedTo loaded mixins target class = (mixin : AppliedMixin) × Contains mixins mixin × Joins loaded mixin class target

-- a class that is written, and the class of the mixin that is applied to it, if there is one
pub record WrittenClass : Type 0 where
  pub class : LoadedClass
  pub mixin : Option LoadedClass

abbrev pub HasItsMixin : List LoadedClass → List AppliedMixin → WrittenClass → Type 0
HasItsMixin loaded mixins written =
    MatchOption written.mixin ((class : LoadedClass) → IsAppliedTo loaded mixins written.class class → ⊥)
    (IsAppliedTo loaded mixins written.class)

abbrev pub class_of : WrittenClass → LoadedClass
class_of written = written.class

-- the classes that are written, each with the mixin that is applied to it
pub record AreWritten (configs : Configs) (loaded : List LoadedClass) (mixins : List AppliedMixin) (written : List WrittenClass) : Type 0 where
  pub classes : AreWrittenClasses configs loaded (map class_of written)
  pub each : AllByRecursion (HasItsMixin loaded mixins) written
