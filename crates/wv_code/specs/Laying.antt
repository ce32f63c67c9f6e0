-- The offsets of a method's instructions (JVM Specification 4.7.3 and 4.9.1).
use Rattle.std.specs.Prelude.{◌≡◌, ℕ, ◌+◌, ◌<◌, ◌≤◌, pos, ◌-ℤ◌, Bool, true, false, FitsSigned, List, [], ◌∷◌, ◌++◌, slice_get, slice_index, Some, ◌⊎◌}
use Rattle.std.specs.Int.{w16}
use Rattle.wv_base.specs.declared.class_file.PoolEntry.{PoolEntry}
use Rattle.wv_base.specs.declared.constant.Const.{Const}
use Rattle.wv_base.specs.declared.fault.LimitFault.{LimitFault}
use Rattle.wv_base.specs.declared.fault.LimitFault.TheVariants as faults
use Rattle.wv_base.specs.declared.insn.Insn.{Insn}
use Rattle.wv_base.specs.declared.insn.Insn.TheVariants as insn
use Rattle.wv_base.specs.Opcodes.{ldc, goto_w}
use Rattle.wv_code.specs.declared.code_layout.CodeLayout.{CodeLayout}
use Rattle.wv_code.specs.Size.{size}
use Rattle.wv_code.specs.Entering.{short_constants, Enters, MeetsFull}
use Rattle.wv_pool.specs.declared.add.PoolFault.{PoolFault}
use Rattle.wv_pool.specs.declared.add.PoolFault.TheVariants as pool_faults
use Rattle.wv_pool.specs.Constants.{constant_of}

-- a number of one byte names the constant
abbrev pub HasShortNumber : List PoolEntry → Const → Type 0
HasShortNumber pool c = (n : ℕ) × (constant_of pool n ≡ Some c) × (n < 256)

-- whether an ldc is long: no number of one byte names its constant (6.5 ldc)
abbrev pub IsLong : List PoolEntry → Const → Bool → Type 0
IsLong pool c true = HasShortNumber pool c → ⊥
IsLong pool c false = HasShortNumber pool c

-- whether the instruction is written as ldc_w in place of ldc
abbrev pub IsWidened : List PoolEntry → Insn → Bool → Type 0
IsWidened pool (insn.Load op value) long = op ≡ ldc → IsLong pool value long
IsWidened pool _ long = Unit {0}

-- the instruction takes so many bytes at the offset
abbrev pub Takes : List PoolEntry → ℕ → Insn → ℕ → Type 0
Takes pool at i bytes = (long : Bool) × IsWidened pool i long × (bytes ≡ size long at i)

-- From an offset on the instructions stand at these offsets, each where the one before it ends, and end at the last number.
abbrev pub Stand : List PoolEntry → ℕ → List Insn → List ℕ → ℕ → Type 0
Stand pool at [] [] end = end ≡ at
Stand pool at (i ∷ insns) (o ∷ offsets) end = (o ≡ at) × ((bytes : ℕ) × Takes pool at i bytes × Stand pool (at + bytes) insns offsets end)
Stand pool at _ _ end = ⊥

-- A jump at an offset reaches its target: but for goto_w, its distance has 16 bits (6.5 goto and goto_w).
abbrev pub Reaches : List ℕ → ℕ → Insn → Type 0
Reaches offsets at (insn.Branch op to) = (op ≡ goto_w) ⊎ FitsSigned w16 (pos (slice_index offsets to) -ℤ pos at)
Reaches offsets at _ = Unit {0}

abbrev pub AllReach : List Insn → List ℕ → Type 0
AllReach insns offsets = (k : ℕ) (i : Insn) → slice_get insns k ≡ Some i → Reaches offsets (slice_index offsets k) i

-- one of the jumps doesn't reach its target
pub record IsFar (insns : List Insn) (offsets : List ℕ) : Type 0 where
  pub index : ℕ
  pub jump : Insn
  pub found : slice_get insns index ≡ Some jump
  pub far : Reaches offsets (slice_index offsets index) jump → ⊥

-- the offsets of the instructions and the length of the code, in which each jump reaches its target
pub record IsLayout (pool : List PoolEntry) (insns : List Insn) (layout : CodeLayout) : Type 0 where
  pub stand : Stand pool 0 insns layout.offsets layout.len
  pub small : layout.len ≤ 65535
  pub reach : AllReach insns layout.offsets

-- some of the instructions alone take more than 65,535 bytes (4.7.3, code_length)
pub record IsLarge (pool : List PoolEntry) (insns : List Insn) : Type 0 where
  pub front : List Insn
  pub back : List Insn
  pub parts : insns ≡ front ++ back
  pub offsets : List ℕ
  pub end : ℕ
  pub stand : Stand pool 0 front offsets end
  pub passes : 65535 < end

-- the offsets of the instructions, at which some jump doesn't reach its target
pub record LeavesFar (pool : List PoolEntry) (insns : List Insn) : Type 0 where
  pub offsets : List ℕ
  pub end : ℕ
  pub stand : Stand pool 0 insns offsets end
  pub small : end ≤ 65535
  pub far : IsFar insns offsets

-- why code has no layout: the first of these that holds
abbrev pub IsCause : (old new : List PoolEntry) → List Insn → LimitFault → Type 0
IsCause old new insns faults.PoolLarge = MeetsFull old (short_constants insns)
IsCause old new insns faults.CodeLarge = Enters old (short_constants insns) new × IsLarge new insns
IsCause old new insns faults.BranchFar = Enters old (short_constants insns) new × LeavesFar new insns
IsCause old new insns faults.Memory = Unit {0}

-- the limit that a full pool means for code
abbrev pub limit_of : PoolFault → LimitFault
limit_of pool_faults.Full = faults.PoolLarge
limit_of pool_faults.Memory = faults.Memory
