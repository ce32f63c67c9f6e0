-- Bodies that a Code attribute can have (JVM Specification 4.7.3 and 4.7.4), with the numbers of a pool.
use Rattle.std.specs.Prelude.{◌≡◌, ℕ, ◌+◌, ◌^◌, ◌<◌, ◌≤◌, List, [], ◌∷◌, length, slice_get, Option, Some, None}
use Rattle.std.specs.List.{list_any, AllByRecursion}
use Rattle.wv_base.specs.declared.class_file.PoolEntry.{PoolEntry}
use Rattle.wv_base.specs.declared.class_file.Attribute.{Attribute}
use Rattle.wv_base.specs.declared.class_file.ExceptionRange.{ExceptionRange}
use Rattle.wv_base.specs.declared.class_file.Body.{Body}
use Rattle.wv_base.specs.declared.frame.VType.{VType}
use Rattle.wv_base.specs.declared.frame.VType.TheVariants as vtypes
use Rattle.wv_base.specs.declared.frame.Frame.{Frame}
use Rattle.wv_base.specs.declared.frame.FrameAt.{FrameAt}
use Rattle.wv_base.specs.declared.insn.Insn.{Insn}
use Rattle.wv_base.specs.declared.insn.Insn.TheVariants as insn
use Rattle.wv_base.specs.Opcodes.{new as new_instance}
use Rattle.wv_pool.specs.Allowed.{IsClassText}
use Rattle.wv_frames.specs.Whole.{is_this}
use Rattle.wv_code.specs.Content.{NamesFrames}
use Rattle.wv_code.specs.Formed.{AreFormed}

-- what is caught: every class, or one that a pool may hold
abbrev pub IsCaught : Option (List ℕ) → Type 0
IsCaught None = Unit {0}
IsCaught (Some name) = IsClassText name

-- a range of some of the instructions, of which there are so many, with its handler among them
abbrev pub IsFormedRange : ℕ → ExceptionRange → Type 0
IsFormedRange count r = (r.start < r.end) × (r.end ≤ count) × (r.handler < count) × IsCaught r.catch

abbrev pub AreFormedRanges : ℕ → List ExceptionRange → Type 0
AreFormedRanges count ranges = (length ranges < 2 ^ 16) × AllByRecursion (IsFormedRange count) ranges

-- the instruction with the index is a `new`
abbrev pub Makes : List Insn → ℕ → Type 0
Makes insns index = (class : List ℕ) × (slice_get insns index ≡ Some (insn.Class new_instance class))

-- a type whose class a pool may hold, and whose object a `new` made
abbrev pub IsFormedType : List Insn → VType → Type 0
IsFormedType insns (vtypes.Class name) = IsClassText name
IsFormedType insns (vtypes.Uninitialized index) = Makes insns index
IsFormedType insns _ = Unit {0}

abbrev pub AreFormedTypes : List Insn → List VType → Type 0
AreFormedTypes insns all = (length all < 2 ^ 16) × AllByRecursion (IsFormedType insns) all

-- the flag is set where a local is `this` before its initialization (4.10.1.4)
abbrev pub IsFormedFrame : List Insn → Frame → Type 0
IsFormedFrame insns frame = AreFormedTypes insns frame.locals × AreFormedTypes insns frame.stack × (frame.this_uninitialized ≡ list_any is_this frame.locals)

-- frames of some of the instructions, in their order, from this one on
abbrev pub AreFormedFrom : List Insn → ℕ → List FrameAt → Type 0
AreFormedFrom insns next [] = Unit {0}
AreFormedFrom insns next (one ∷ others) = (next ≤ one.at) × (one.at < length insns) × IsFormedFrame insns one.frame × AreFormedFrom insns (one.at + 1) others

abbrev pub AreFormedFrames : List Insn → List FrameAt → Type 0
AreFormedFrames insns all = (length all < 2 ^ 16) × AreFormedFrom insns 0 all

-- an attribute that isn't a StackMapTable, nor becomes one where the pool grows
abbrev pub IsFormedKept : List PoolEntry → Attribute → Type 0
IsFormedKept pool a = (a.name ≤ length pool) × (NamesFrames pool a.name → ⊥) × (length a.content < 2 ^ 32)

-- how many StackMapTables there are: one, if there are frames
abbrev pub table_count : List FrameAt → ℕ
table_count [] = 0
table_count (one ∷ others) = 1

-- the attributes, and room for as many
abbrev pub AreFormedKept : List PoolEntry → Body → Type 0
AreFormedKept pool body = (length body.kept + table_count body.frames < 2 ^ 16) × AllByRecursion (IsFormedKept pool) body.kept

-- a body that a Code attribute can have
pub record IsFormedBody (pool : List PoolEntry) (body : Body) : Type 0 where
  pub insns : AreFormed body.insns
  pub some : 1 ≤ length body.insns
  pub few : length body.insns < 2 ^ 31
  pub ranges : AreFormedRanges (length body.insns) body.ranges
  pub frames : AreFormedFrames body.insns body.frames
  pub kept : AreFormedKept pool body
