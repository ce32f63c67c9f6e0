-- The members of the classes that overwrites make (Mixin 0.8.5, @Overwrite).
use Rattle.std.specs.Prelude.{◌≡◌, List, [], if◌then◌else◌, length, map, Contains, bytes_eq, Option, Some, None, option_map, ℕ}
use Rattle.std.specs.List.{AllZip, find}
use Rattle.wv_base.specs.declared.class_file.Body.{Body}
use Rattle.wv_base.specs.declared.class_file.ClassFile.{ClassFile}
use Rattle.wv_base.specs.declared.class_file.Member.{Member}
use Rattle.wv_base.specs.declared.insn.Insn.{Insn}
use Rattle.wv_base.specs.declared.insn.Insn.TheVariants as insns
use Rattle.wv_model.specs.PlainMethod.{AreSame}

-- a mixin that is applied: the names of its class and of its target, and its methods
pub record Applied : Type 0 where
  pub name : List ℕ
  pub target : List ℕ
  pub methods : List Member

-- a mixin of the form has one method
abbrev pub HasOneMethod : List Member → Type 0
HasOneMethod methods = length methods ≡ 1

-- the mixin of a class; a class of the form is the target of one at most
abbrev pub mixin_of : List Applied → ClassFile → Option Applied
mixin_of mixins class = find (λ mixin. bytes_eq mixin.target class.name) mixins

-- what a class's name in a mixin's code means: the mixin's name is the target's
abbrev pub meaning_of : (mixin target name : List ℕ) → List ℕ
meaning_of mixin target name = if bytes_eq name mixin then target else name

-- an instruction of a mixin as it is read in the target
abbrev pub read_in_target : (mixin target : List ℕ) → Insn → Insn
read_in_target mixin target (insns.Reference op owner name descriptor interface) =
    insns.Reference op (meaning_of mixin target owner) name descriptor interface
read_in_target mixin target insn = insn

-- code of a mixin as it is read in the target; plain code has no ranges and no frames, and this has no attributes
abbrev pub body_in_target : (mixin target : List ℕ) → Body → Body
body_in_target mixin target body =
    record {
      max_stack = body.max_stack;
      max_locals = body.max_locals;
      insns = map (read_in_target mixin target) body.insns;
      ranges = [];
      frames = [];
      kept = [];
    }

-- a method of the target that the origin replaces: it keeps its place, flags, name and descriptor, has the origin's
-- code, and no other attribute
abbrev pub overwritten : (mixin target : List ℕ) → Member → Member → Member
overwritten mixin target old origin =
    record old {
      body = option_map (body_in_target mixin target) origin.body;
      value = None;
      throws = [];
      notes = [];
      kept = [];
    }

-- what stands at the place of a method of the target: that method with the code of the mixin's of the same name and
-- descriptor, or the method as it was where the mixin has none
pub data IsMember (mixin : Applied) (old : Member) : Member → Type 0 where
  replaced : {origin : Member} → Contains mixin.methods origin → AreSame old origin → IsMember mixin old (overwritten mixin.name mixin.target old origin)
  unchanged : ((origin : Member) → Contains mixin.methods origin → AreSame old origin → ⊥) → IsMember mixin old old

-- the methods of the written class of a mixin's target: those of the target, in their order
abbrev pub IsTable : Applied → List Member → List Member → Type 0
IsTable mixin methods written = AllZip (IsMember mixin) methods written

-- the methods of the written class of any class: without a mixin they stay
abbrev pub IsTableOf : Option Applied → List Member → List Member → Type 0
IsTableOf None methods written = written ≡ methods
IsTableOf (Some mixin) methods written = IsTable mixin methods written

-- what a class becomes under these mixins: a class of its name with the methods of its table. Of the rest of a class no
-- machine knows
pub record Becomes (mixins : List Applied) (class written : ClassFile) : Type 0 where
  pub same_name : written.name ≡ class.name
  pub table : IsTableOf (mixin_of mixins class) class.methods written.methods
