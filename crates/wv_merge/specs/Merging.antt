-- When a mixin can't be applied to its target (Mixin 0.8.5, @Overwrite). The refusal is our own.
use Rattle.std.specs.Prelude.{◌≡◌, ℕ, List, ◌++◌, codes, Contains, encode_utf8_all, Some, None}
use Rattle.wv_base.specs.declared.broken.Broken.{Broken}
use Rattle.wv_base.specs.declared.class_file.ClassFile.{ClassFile}
use Rattle.wv_base.specs.declared.class_file.Member.{Member}
use Rattle.wv_base.specs.declared.rule.Rule.TheVariants.{OverwriteMissing}
use Rattle.wv_base.specs.Shown.{shown_characters}
use Rattle.wv_model.specs.PlainMethod.{AreSame}
use Rattle.wv_merge.specs.declared.fault.MergeFault.{MergeFault}
use Rattle.wv_merge.specs.declared.fault.MergeFault.TheVariants as faults

-- a name as a refusal shows it
abbrev pub shown : List ℕ → List ℕ
shown name = encode_utf8_all (shown_characters name)

-- a method as a refusal shows it: its name and its descriptor
abbrev pub shown_method : Member → List ℕ
shown_method method = shown method.name ++ shown method.descriptor

-- the same with the name of a class
abbrev pub method_of : List ℕ → Member → List ℕ
method_of class method = shown class ++ (codes "." ++ shown_method method)

-- the refusal of a mixin's file whose method the target of this name lacks
abbrev pub overwrite_missing : (path target : List ℕ) → Member → Broken
overwrite_missing path target method =
    record {
      rule = OverwriteMissing;
      place = record { file = path; member = Some (shown_method method); index = None };
      wanted = method_of target method;
      found = codes "-";
    }

-- the class has no method of the same name and descriptor
abbrev pub Lacks : ClassFile → Member → Type 0
Lacks class method = (other : Member) → Contains class.methods other → AreSame other method → ⊥

-- rule 51: the target lacks the method of the mixin that the refusal names
pub record IsMissing (path : List ℕ) (target mixin : ClassFile) (broken : Broken) : Type 0 where
  pub method : Member
  pub of_mixin : Contains mixin.methods method
  pub missing : Lacks target method
  pub refusal : broken ≡ overwrite_missing path target.name method

-- the target lacks no method of the mixin
abbrev pub NoneMissing : (target mixin : ClassFile) → Type 0
NoneMissing target mixin = (method : Member) → Contains mixin.methods method → Lacks target method → ⊥

-- the fault is such a refusal; want of memory tells nothing
abbrev pub IsFaultOf : (Broken → Type 0) → MergeFault → Type 0
IsFaultOf IsSuch (faults.Broken broken) = IsSuch broken
IsFaultOf IsSuch faults.Memory = Unit {0}
