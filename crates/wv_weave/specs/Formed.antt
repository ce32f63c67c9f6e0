-- Classes of a folder whose class files have the form that is built (our own).
use Rattle.std.specs.Prelude.{◌≡◌, ◌≢◌, ◌⊎◌, ℕ, List, AllPairs, Contains}
use Rattle.std.specs.List.{AllByRecursion}
use Rattle.wv_classes.specs.declared.loaded_class.LoadedClass.{LoadedClass}
use Rattle.wv_classes.specs.LoadedClass.{IsOwnClass}
use Rattle.wv_form.specs.FileForm.{HasTarget}
use Rattle.wv_merge.specs.ThinClass.{IsReadThin}
use Rattle.wv_model.specs.PlainCode.{Game, Mixin}

-- the class is thin in one of the roles, and has the name that its path says
pub record IsThinLoaded (loaded : LoadedClass) : Type 0 where
  pub thin : IsReadThin Game loaded.class ⊎ IsReadThin Mixin loaded.class
  pub own : IsOwnClass loaded

-- the target of a thin mixin is a thin class
abbrev pub HasThinTarget : List LoadedClass → LoadedClass → Type 0
HasThinTarget classes class =
    (target : LoadedClass) × Contains classes target × IsReadThin Game target.class × HasTarget class.class target.name

-- each is thin, no two have one name, and each thin mixin has a target of its own
pub record AreFormed (classes : List LoadedClass) : Type 0 where
  pub thin : AllByRecursion IsThinLoaded classes
  pub distinct : AllPairs (λ class later. class.name ≢ later.name) classes
  pub targets : (class : LoadedClass) → Contains classes class → IsReadThin Mixin class.class → HasThinTarget classes class
  pub alone : (class other : LoadedClass) → Contains classes class → Contains classes other
      → IsReadThin Mixin class.class → IsReadThin Mixin other.class
      → (name : List ℕ) → HasTarget class.class name → HasTarget other.class name → class ≡ other
