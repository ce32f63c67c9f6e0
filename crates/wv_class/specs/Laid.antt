-- The layouts of a class's methods (JVM Specification 4.7.3).
use Rattle.std.specs.Prelude.{List, Option, Some, None}
use Rattle.std.specs.List.{AllZip}
use Rattle.wv_base.specs.declared.class_file.PoolEntry.{PoolEntry}
use Rattle.wv_base.specs.declared.class_file.Body.{Body}
use Rattle.wv_base.specs.declared.class_file.Member.{Member}
use Rattle.wv_base.specs.declared.fault.LimitFault.{LimitFault}
use Rattle.wv_base.specs.declared.fault.LimitFault.TheVariants as faults
use Rattle.wv_code.specs.declared.code_layout.CodeLayout.{CodeLayout}
use Rattle.wv_code.specs.Laying.{IsLayout}
use Rattle.wv_class.specs.Limits.{BreaksLimit, FirstOf}

abbrev pub IsLaid : List PoolEntry → Option Body → Option CodeLayout → Type 0
IsLaid pool None None = Unit {0}
IsLaid pool (Some body) (Some layout) = IsLayout pool body.insns layout
IsLaid pool _ _ = ⊥

abbrev pub AreLaid : List PoolEntry → List Member → List (Option CodeLayout) → Type 0
AreLaid pool methods layouts = AllZip (λ (m : Member) layout. IsLaid pool m.body layout) methods layouts

-- the cause of a limit of one method's code where the pool has all constants
abbrev pub BodyBreaks : List PoolEntry → Option Body → LimitFault → Type 0
BodyBreaks pool body faults.PoolLarge = ⊥
BodyBreaks pool body faults.CodeLarge = BreaksLimit pool body faults.CodeLarge
BodyBreaks pool body faults.BranchFar = BreaksLimit pool body faults.BranchFar
BodyBreaks pool body faults.Memory = Unit {0}

-- and of all methods' code
abbrev pub LayoutsBreak : List PoolEntry → List Member → LimitFault → Type 0
LayoutsBreak pool methods faults.PoolLarge = ⊥
LayoutsBreak pool methods faults.CodeLarge = FirstOf pool methods faults.CodeLarge
LayoutsBreak pool methods faults.BranchFar = FirstOf pool methods faults.BranchFar
LayoutsBreak pool methods faults.Memory = Unit {0}
