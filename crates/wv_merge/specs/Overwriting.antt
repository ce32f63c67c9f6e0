-- What a mixin changes of its target: one method, and the version (Mixin 0.8.5, @Overwrite).
use Rattle.std.specs.Prelude.{◌≡◌, ℕ, List, take, All, Contains, Some, slice_get, slice_set}
use Rattle.wv_base.specs.declared.class_file.ClassFile.{ClassFile}
use Rattle.wv_base.specs.declared.class_file.Member.{Member}
use Rattle.wv_model.specs.MemberTable.{overwritten}
use Rattle.wv_model.specs.PlainCode.{Game, Mixin}
use Rattle.wv_model.specs.PlainMethod.{AreSame}
use Rattle.wv_merge.specs.declared.overwriting.Overwriting.{Overwriting}
use Rattle.wv_merge.specs.ThinClass.{IsReadThin}
use Rattle.wv_merge.specs.Written.{written_version}

-- the place is that of the first method with this one's name and descriptor
pub record IsPlaceOf (methods : List Member) (method : Member) (place : ℕ) : Type 0 where
  pub old : Member
  pub at : slice_get methods place ≡ Some old
  pub same : AreSame old method
  pub first : All (λ other. AreSame other method → ⊥) (take place methods)

-- a method of the mixin, as it is read in the target, stands for the target's at the place
pub record IsOverwriting (target mixin : ClassFile) (overwriting : Overwriting) : Type 0 where
  pub origin : Member
  pub of_mixin : Contains mixin.methods origin
  pub replaced : IsPlaceOf target.methods origin overwriting.place
  pub method : overwriting.method ≡ overwritten mixin.name target.name replaced.old origin
  pub version : overwriting.version ≡ written_version target.version mixin.version

-- the target with that method at the place and with that version, and all else the same
abbrev pub changed : ClassFile → Overwriting → ClassFile
changed target overwriting =
    record target {
      version = overwriting.version;
      methods = slice_set target.methods overwriting.place overwriting.method;
    }

-- a thin class that is so changed by a thin mixin
pub record IsChanged (target mixin changed_class : ClassFile) : Type 0 where
  pub is_target : IsReadThin Game target
  pub is_mixin : IsReadThin Mixin mixin
  pub overwriting : Overwriting
  pub change : IsOverwriting target mixin overwriting
  pub made : changed_class ≡ changed target overwriting
