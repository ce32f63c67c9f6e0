-- The code array of a method (JVM Specification 4.7.3 and 4.9.1).
use Rattle.std.specs.Prelude.{◌≡◌, ℕ, ◌+◌, Bool, List, [], ◌∷◌, length}
use Rattle.wv_base.specs.declared.class_file.PoolEntry.{PoolEntry}
use Rattle.wv_base.specs.declared.insn.Insn.{Insn}
use Rattle.wv_insn.specs.declared.raw.Raw.{Raw}
use Rattle.wv_insn.specs.Standing.{Stands}
use Rattle.wv_code.specs.Laying.{IsWidened}
use Rattle.wv_code.specs.Meaning.{Means, widened}

-- From an offset on these instructions stand in the code at these offsets, each where the one before it ends, and end
-- at the last number.
abbrev pub Follow : List ℕ → ℕ → List Raw → List ℕ → ℕ → Type 0
Follow code at [] [] end = end ≡ at
Follow code at (r ∷ raws) (o ∷ offsets) end = (o ≡ at) × ((len : ℕ) × Stands code at r len × Follow code (at + len) raws offsets end)
Follow code at _ _ end = ⊥

-- each of the instructions that bytes spell at these offsets means the one with its index
abbrev pub AllMean : List PoolEntry → List ℕ → List Raw → List ℕ → List Insn → Type 0
AllMean pool offsets [] [] [] = Unit {0}
AllMean pool offsets (r ∷ raws) (at ∷ ats) (i ∷ insns) = Means pool offsets at r i × AllMean pool offsets raws ats insns
AllMean pool offsets _ _ _ = ⊥

-- The code consists of these instructions, one behind the other at the offsets from its start to its end.
pub record IsCode (pool : List PoolEntry) (code : List ℕ) (insns : List Insn) (offsets : List ℕ) : Type 0 where
  pub raws : List Raw
  pub follow : Follow code 0 raws offsets (length code)
  pub mean : AllMean pool offsets raws offsets insns

-- the same instructions, but for ldc_w in place of each ldc whose constant has no number of one byte
abbrev pub AreWidened : List PoolEntry → List Insn → List Insn → Type 0
AreWidened pool [] [] = Unit {0}
AreWidened pool (i ∷ insns) (j ∷ others) = ((long : Bool) × IsWidened pool i long × (j ≡ widened long i)) × AreWidened pool insns others
AreWidened pool _ _ = ⊥
