-- How an instruction is written.
use Rattle.std.specs.Prelude.{◌≡◌, ℕ, ◌+◌, ◌==◌, ◌&&◌, nat_lt, Bool, List, if◌then◌else◌}
use Rattle.wv_base.specs.declared.class_file.PoolEntry.{PoolEntry}
use Rattle.wv_base.specs.declared.insn.Insn.{Insn}
use Rattle.wv_base.specs.Opcodes.{ldc, ldc_w, invokeinterface}
use Rattle.wv_base.specs.Descriptor.{HasWords}
use Rattle.wv_insn.specs.declared.raw.Raw.{Raw}
use Rattle.wv_insn.specs.declared.raw.Raw.TheVariants as raw
use Rattle.wv_code.specs.Laying.{IsWidened}
use Rattle.wv_code.specs.Meaning.{Means, widened}
use Rattle.wv_code.specs.Code.{IsCode, AreWidened}

-- ldc_w in place of ldc where the number has two bytes (6.5 ldc)
abbrev pub load_opcode : ℕ → ℕ → ℕ
load_opcode op number = if op == ldc && nat_lt 255 number then ldc_w else op

-- the instruction, an ldc as ldc_w where it is long, is what the bytes at the offset mean
abbrev pub IsWritten : List PoolEntry → List ℕ → ℕ → Raw → Insn → Type 0
IsWritten pool offsets at r i = (long : Bool) × IsWidened pool i long × Means pool offsets at r (widened long i)

-- an opcode that takes a member, with the member's number
abbrev pub IsMember : ℕ → ℕ → List ℕ → Raw → Type 0
IsMember op number descriptor (raw.Reference o n) = (o ≡ op) × (n ≡ number)
IsMember op number descriptor (raw.Interface n count last) = (op ≡ invokeinterface) × (n ≡ number) × ((words : ℕ) × HasWords descriptor words × (count ≡ words + 1)) × (last ≡ 0)
IsMember op number descriptor _ = ⊥

-- The bytes are the code of the instructions, at these offsets: ldc_w stands in place of an ldc whose constant has no
-- number of one byte.
pub record WritesCode (pool : List PoolEntry) (insns : List Insn) (offsets code : List ℕ) : Type 0 where
  pub others : List Insn
  pub widened_are : AreWidened pool insns others
  pub spelled : IsCode pool code others offsets
