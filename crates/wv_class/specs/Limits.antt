-- The limits of the class file format that a class can pass (JVM Specification 4.11).
use Rattle.std.specs.Prelude.{◌≡◌, ℕ, ◌+◌, ◌<◌, List, [], ◌∷◌, ◌++◌, length, slice_get, Option, Some, None, ◌⊎◌}
use Rattle.std.specs.List.{AllByRecursion}
use Rattle.wv_base.specs.declared.class_file.PoolEntry.{PoolEntry}
use Rattle.wv_base.specs.declared.class_file.Body.{Body}
use Rattle.wv_base.specs.declared.class_file.Member.{Member}
use Rattle.wv_base.specs.declared.class_file.ClassFile.{ClassFile}
use Rattle.wv_base.specs.declared.constant.Const.{Const}
use Rattle.wv_base.specs.declared.fault.LimitFault.{LimitFault}
use Rattle.wv_base.specs.declared.fault.LimitFault.TheVariants as faults
use Rattle.wv_pool.specs.References.{IsPool}
use Rattle.wv_pool.specs.Adding.{AreTooMany, Grows}
use Rattle.wv_code.specs.declared.code_layout.CodeLayout.{CodeLayout}
use Rattle.wv_code.specs.Laying.{IsLayout, IsLarge, LeavesFar}
use Rattle.wv_class.specs.Tables.{tables_of}
use Rattle.wv_class.specs.Needs.{class_needs}

-- ---- Lists

abbrev pub one_if : {X : Type 0} → Option X → ℕ
one_if None = 0
one_if (Some x) = 1

abbrev pub one_if_any : {X : Type 0} → List X → ℕ
one_if_any [] = 0
one_if_any (x ∷ xs) = 1

-- how many attributes a member has, and a class
abbrev pub member_attributes : Member → ℕ
member_attributes m = one_if m.value + one_if m.body + one_if_any m.throws + length (tables_of m.notes) + length m.kept

abbrev pub class_attributes : ClassFile → ℕ
class_attributes c = length (tables_of c.notes) + length c.kept

-- a count has two bytes
abbrev pub Passes : ℕ → Type 0
Passes count = 65535 < count

abbrev pub HasLong : Member → Type 0
HasLong m = Passes (length m.throws) ⊎ Passes (member_attributes m)

abbrev pub SomeHasLong : List Member → Type 0
SomeHasLong members = (k : ℕ) × (m : Member) × (slice_get members k ≡ Some m) × HasLong m

-- one of the lists of the class passes 65,535
abbrev pub HasLongList : ClassFile → Type 0
HasLongList c = Passes (length c.interfaces) ⊎ Passes (length c.fields) ⊎ Passes (length c.methods) ⊎ Passes (class_attributes c) ⊎ SomeHasLong c.fields ⊎ SomeHasLong c.methods

-- ---- Code

abbrev pub HasLayout : List PoolEntry → Option Body → Type 0
HasLayout pool None = Unit {0}
HasLayout pool (Some body) = (layout : CodeLayout) × IsLayout pool body.insns layout

abbrev pub BreaksLimit : List PoolEntry → Option Body → LimitFault → Type 0
BreaksLimit pool None fault = ⊥
BreaksLimit pool (Some body) faults.CodeLarge = IsLarge pool body.insns
BreaksLimit pool (Some body) faults.BranchFar = LeavesFar pool body.insns
BreaksLimit pool (Some body) _ = ⊥

-- the code of one of the methods is the first that passes a limit
pub record FirstOf (pool : List PoolEntry) (methods : List Member) (fault : LimitFault) : Type 0 where
  pub before : List Member
  pub method : Member
  pub after : List Member
  pub parts : methods ≡ before ++ method ∷ after
  pub laid : AllByRecursion (λ (m : Member). HasLayout pool m.body) before
  pub breaks : BreaksLimit pool method.body fault

-- one of the lists passes 65,535, or the pool would with the constants of the class
abbrev pub IsTooLong : ClassFile → Type 0
IsTooLong c = HasLongList c ⊎ AreTooMany c.pool (class_needs c)

-- nothing is too long, and with the constants of the class in its pool the code of one of its methods is the first that
-- passes a limit
pub record FirstPasses (c : ClassFile) (fault : LimitFault) : Type 0 where
  pub short : IsTooLong c → ⊥
  pub pool : List PoolEntry
  pub sound : IsPool pool
  pub grows : Grows c.pool (class_needs c) pool
  pub first : FirstOf pool c.methods fault

-- the cause of a limit: the pool and the lists come before code
abbrev pub IsCause : ClassFile → LimitFault → Type 0
IsCause c faults.PoolLarge = IsTooLong c
IsCause c faults.CodeLarge = FirstPasses c faults.CodeLarge
IsCause c faults.BranchFar = FirstPasses c faults.BranchFar
IsCause c faults.Memory = Unit {0}
