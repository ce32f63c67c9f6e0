-- Instructions in a method's code, and where none stands.
use Rattle.std.specs.Prelude.{◌≡◌, ℕ, ◌+◌, ◌-◌, ◌<◌, ◌≤◌, max, List, ◌++◌, length, take, drop, slice_index, ◌⊎◌, Result, Ok, Err}
use Rattle.wv_base.specs.Opcodes.{tableswitch, lookupswitch}
use Rattle.wv_insn.specs.declared.fault.InsnFault.{InsnFault}
use Rattle.wv_insn.specs.declared.fault.InsnFault.TheVariants as fault
use Rattle.wv_insn.specs.declared.raw.Raw.{Raw}
use Rattle.wv_insn.specs.Spelling.{padding, Spells}

-- the instruction stands in the code at this offset, and has this length
pub record Stands (code : List ℕ) (at : ℕ) (r : Raw) (len : ℕ) : Type 0 where
  pub within : at + len ≤ length code
  pub spelled : Spells at r (take len (drop at code))

-- some instruction begins with these bytes, where its opcode stands at this offset
abbrev pub Begins : ℕ → List ℕ → Type 0
Begins at front = (more : List ℕ) × (r : Raw) × Spells at r (front ++ more)

-- no instruction stands at the offset at, and p is the first place for which none begins with the bytes
-- from at to p, the one at p included, or else the code ends at p
pub record IsFirstFault (code : List ℕ) (at p : ℕ) : Type 0 where
  pub none : (r : Raw) (len : ℕ) → Stands code at r len → ⊥
  pub from : at ≤ p
  pub to : p ≤ max at (length code)
  pub begun : Begins at (take (p - at) (drop at code))
  pub broken : p < length code → Begins at (take (p + 1 - at) (drop at code)) → ⊥

-- why decoding gives this fault
abbrev pub IsCause : List ℕ → ℕ → InsnFault → Type 0
IsCause code at (fault.Fault p) = IsFirstFault code at p
IsCause code at fault.Memory = Unit {0}

-- the answer is x, unless memory ran out
abbrev pub IsUnlessMemory : {X : Type 0} → Result X InsnFault → X → Type 0
IsUnlessMemory (Ok y) x = y ≡ x
IsUnlessMemory (Err e) x = e ≡ fault.Memory

-- the byte k of an instruction at this offset is a pad byte of a switch
abbrev pub IsPad : ℕ → List ℕ → ℕ → Type 0
IsPad at bytes k = ((slice_index bytes 0 ≡ tableswitch) ⊎ (slice_index bytes 0 ≡ lookupswitch)) × (0 < k) × (k ≤ padding at)

-- the bytes of an instruction at this offset, but for the pad bytes of a switch
pub record IsSameButPadding (at : ℕ) (old new : List ℕ) : Type 0 where
  pub lengths : length old ≡ length new
  pub others : (k : ℕ) → (IsPad at old k → ⊥) → slice_index old k ≡ slice_index new k
