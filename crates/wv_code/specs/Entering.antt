-- Entering the constants of a method's ldc instructions into the pool.
use Rattle.std.specs.Prelude.{◌≡◌, ◌==◌, List, [], ◌∷◌, ◌++◌, ◌⊎◌, if◌then◌else◌}
use Rattle.std.specs.List.{flat_map}
use Rattle.wv_base.specs.declared.class_file.PoolEntry.{PoolEntry}
use Rattle.wv_base.specs.declared.constant.Const.{Const}
use Rattle.wv_base.specs.declared.insn.Insn.{Insn}
use Rattle.wv_base.specs.declared.insn.Insn.TheVariants as insn
use Rattle.wv_base.specs.Opcodes.{ldc}
use Rattle.wv_pool.specs.Adding.{needs, AreTooMany, Grows}
use Rattle.wv_pool.specs.Numbers.{Named}

-- the constant that an ldc names (JVM Specification 6.5 ldc)
abbrev pub short_constant : Insn → List Const
short_constant (insn.Load op value) = if op == ldc then value ∷ [] else []
short_constant _ = []

-- the constants that the ldc instructions name, in order
abbrev pub short_constants : List Insn → List Const
short_constants insns = flat_map short_constant insns

-- a constant was put into the pool, unless a number named it
abbrev pub Puts : List PoolEntry → Const → List PoolEntry → Type 0
Puts old c new = (Named old c × (new ≡ old)) ⊎ Grows old (needs c) new

-- constants were put into the pool, one after the other
pub data Enters (old : List PoolEntry) : List Const → List PoolEntry → Type 0 where
  none : Enters old [] old
  next : {cs : List Const} {c : Const} {middle new : List PoolEntry} → Enters old cs middle → Puts middle c new → Enters old (cs ++ c ∷ []) new

-- of these constants one finds the pool full, when those before it are there (4.11)
pub record MeetsFull (old : List PoolEntry) (cs : List Const) : Type 0 where
  pub before : List Const
  pub constant : Const
  pub after : List Const
  pub pool : List PoolEntry
  pub parts : cs ≡ before ++ constant ∷ after
  pub entered : Enters old before pool
  pub full : AreTooMany pool (needs constant)
