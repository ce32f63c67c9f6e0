-- The items of a Code attribute's content that break what they must meet (JVM Specification 4.7.3, 4.7.4 and 4.9.1), by
-- their places in it.
use Rattle.std.specs.Prelude.{◌≡◌, ℕ, ◌+◌, ◌*◌, ◌<◌, ◌≤◌, ◌<ℤ◌, ◌≤ℤ◌, ℤ, true, false, List, [], ◌∷◌, length, take, slice_get, Some, ◌⊎◌}
use Rattle.std.specs.List.{flat_map}
use Rattle.wv_base.specs.declared.class_file.PoolEntry.{PoolEntry}
use Rattle.wv_base.specs.declared.constant.Const.{Const}
use Rattle.wv_base.specs.declared.constant.Const.TheVariants as constants
use Rattle.wv_base.specs.declared.constant.MemberReference.{MemberReference}
use Rattle.wv_base.specs.declared.frame.Frame.{Frame}
use Rattle.wv_base.specs.Opcodes.{putfield, invokevirtual, invokestatic}
use Rattle.wv_base.specs.Opcodes.{new as new_instance}
use Rattle.wv_base.specs.Descriptor.{HasWords}
use Rattle.wv_insn.specs.declared.raw.Raw.{Raw}
use Rattle.wv_insn.specs.declared.raw.Raw.TheVariants as raws
use Rattle.wv_insn.specs.declared.raw.RawCase.{RawCase}
use Rattle.wv_insn.specs.Spelling.{padding}
use Rattle.wv_pool.specs.Constants.{class_name, constant_of}
use Rattle.wv_frames.specs.declared.raw.RawType.{RawType}
use Rattle.wv_frames.specs.declared.raw.RawType.TheVariants as types
use Rattle.wv_frames.specs.declared.raw.RawFrame.{RawFrame}
use Rattle.wv_frames.specs.declared.raw.RawFrame.TheVariants as frames
use Rattle.wv_frames.specs.Spelling.{type_bytes, frame_bytes}
use Rattle.wv_frames.specs.Whole.{delta_of}
use Rattle.wv_frames.specs.References.{FirstBreaks}
use Rattle.wv_code.specs.declared.splitting.RawCode.{RawCode}
use Rattle.wv_code.specs.declared.raw_body.RawRange.{RawRange}
use Rattle.wv_code.specs.declared.raw_body.RawAttribute.TheVariants as attributes
use Rattle.wv_code.specs.declared.raw_body.RawBody.{RawBody}
use Rattle.wv_code.specs.Formed.{loaded_words, LoadsWords, dimensions_of}
use Rattle.wv_code.specs.Meaning.{Leads}
use Rattle.wv_code.specs.Content.{range_bytes, attribute_bytes}

-- an instruction starts at the offset
abbrev pub Starts : List ℕ → ℕ → Type 0
Starts offsets at = (index : ℕ) × (slice_get offsets index ≡ Some at)

-- the distance from the instruction at the offset leads to the start of one
abbrev pub Lands : List ℕ → ℕ → ℤ → Type 0
Lands offsets at distance = (to : ℕ) × Leads offsets at distance to

-- the number names a constant that the opcode loads (6.5 ldc, ldc_w and ldc2_w)
abbrev pub Loads : List PoolEntry → ℕ → ℕ → Type 0
Loads pool op number = (c : Const) × (constant_of pool number ≡ Some c) × LoadsWords op (loaded_words c)

-- the number names a member that the opcode takes (6.5 getstatic to invokestatic): up to putfield a field, then a method
-- of a class, and for invokespecial and invokestatic also one of an interface
abbrev pub Takes : List PoolEntry → ℕ → ℕ → Type 0
Takes pool op number = (m : MemberReference) × (
    ((op ≤ putfield) × (constant_of pool number ≡ Some (constants.Field m)))
    ⊎ ((putfield < op) × (constant_of pool number ≡ Some (constants.Method m false)))
    ⊎ ((invokevirtual < op) × (op ≤ invokestatic) × (constant_of pool number ≡ Some (constants.Method m true))))

-- the number names a method of an interface, with this descriptor
abbrev pub TakesInterface : List PoolEntry → ℕ → List ℕ → Type 0
TakesInterface pool number descriptor = (m : MemberReference) × (constant_of pool number ≡ Some (constants.Method m true)) × (descriptor ≡ m.descriptor)

abbrev pub TakesSite : List PoolEntry → ℕ → Type 0
TakesSite pool number = (bootstrap : ℕ) × (name : List ℕ) × (descriptor : List ℕ) × (constant_of pool number ≡ Some (constants.InvokeDynamic bootstrap name descriptor))

abbrev pub NamesClass : List PoolEntry → ℕ → Type 0
NamesClass pool number = (name : List ℕ) × (class_name pool number ≡ Some name)

-- The place, from its opcode on, of an item of the instruction at the offset that breaks what it must meet.
pub data InsnBreaks (pool : List PoolEntry) (offsets : List ℕ) (at : ℕ) : Raw → ℕ → Type 0 where
  load : {op number : ℕ} → (Loads pool op number → ⊥) → InsnBreaks pool offsets at (raws.Load op number) 1
  branch : {op : ℕ} {distance : ℤ} → (Lands offsets at distance → ⊥) → InsnBreaks pool offsets at (raws.Branch op distance) 1
  table_other : {low high other : ℤ} {distances : List ℤ} → (Lands offsets at other → ⊥) → InsnBreaks pool offsets at (raws.Table low high other distances) (1 + padding at)
  table_low : {low high other : ℤ} {distances : List ℤ} → high <ℤ low → InsnBreaks pool offsets at (raws.Table low high other distances) (1 + padding at + 4)
  table_target : {low high other : ℤ} {distances : List ℤ} (k : ℕ) (distance : ℤ) → slice_get distances k ≡ Some distance → (Lands offsets at distance → ⊥)
      → InsnBreaks pool offsets at (raws.Table low high other distances) (1 + padding at + 12 + 4 * k)
  lookup_other : {other : ℤ} {cases : List RawCase} → (Lands offsets at other → ⊥) → InsnBreaks pool offsets at (raws.Lookup other cases) (1 + padding at)
  -- keys ascend strictly: the later one breaks it
  lookup_key : {other : ℤ} {cases : List RawCase} (k : ℕ) (before case : RawCase) → slice_get cases k ≡ Some before → slice_get cases (k + 1) ≡ Some case → case.key ≤ℤ before.key
      → InsnBreaks pool offsets at (raws.Lookup other cases) (1 + padding at + 8 + 8 * (k + 1))
  lookup_target : {other : ℤ} {cases : List RawCase} (k : ℕ) (case : RawCase) → slice_get cases k ≡ Some case → (Lands offsets at case.offset → ⊥)
      → InsnBreaks pool offsets at (raws.Lookup other cases) (1 + padding at + 12 + 8 * k)
  reference : {op number : ℕ} → (Takes pool op number → ⊥) → InsnBreaks pool offsets at (raws.Reference op number) 1
  interface : {number count last : ℕ} → ((descriptor : List ℕ) → TakesInterface pool number descriptor → ⊥) → InsnBreaks pool offsets at (raws.Interface number count last) 1
  -- the count is the words of the arguments and one for the object (6.5 invokeinterface)
  count : {number count last : ℕ} {descriptor : List ℕ} → TakesInterface pool number descriptor → ((words : ℕ) → HasWords descriptor words → count ≡ words + 1 → ⊥)
      → InsnBreaks pool offsets at (raws.Interface number count last) 3
  zero : {number count last : ℕ} → (last ≡ 0 → ⊥) → InsnBreaks pool offsets at (raws.Interface number count last) 4
  site : {number : ℕ} → (TakesSite pool number → ⊥) → InsnBreaks pool offsets at (raws.Dynamic number) 1
  class : {op number : ℕ} → (NamesClass pool number → ⊥) → InsnBreaks pool offsets at (raws.Class op number) 1
  -- the kinds are those of boolean to long (6.5 newarray)
  array : {kind : ℕ} → ((4 ≤ kind) × (kind ≤ 11) → ⊥) → InsnBreaks pool offsets at (raws.NewArray kind) 1
  multi : {number dimensions : ℕ} → (NamesClass pool number → ⊥) → InsnBreaks pool offsets at (raws.MultiArray number dimensions) 1
  dimensions : {number dimensions : ℕ} {name : List ℕ} → class_name pool number ≡ Some name → ((1 ≤ dimensions) × (dimensions ≤ dimensions_of name) → ⊥)
      → InsnBreaks pool offsets at (raws.MultiArray number dimensions) 3

-- The place in a range of an item that breaks what it must meet, in a code of so many bytes.
pub data RangeBreaks (pool : List PoolEntry) (offsets : List ℕ) (len : ℕ) (r : RawRange) : ℕ → Type 0 where
  start : (Starts offsets r.start × (r.start < r.end) → ⊥) → RangeBreaks pool offsets len r 0
  end : (Starts offsets r.end ⊎ (r.end ≡ len) → ⊥) → RangeBreaks pool offsets len r 2
  handler : (Starts offsets r.handler → ⊥) → RangeBreaks pool offsets len r 4
  catch : ((r.catch ≡ 0) ⊎ NamesClass pool r.catch → ⊥) → RangeBreaks pool offsets len r 6

-- a `new` starts at the offset
abbrev pub IsNew : RawCode → ℕ → Type 0
IsNew code at = (index : ℕ) × (number : ℕ) × (slice_get code.offsets index ≡ Some at) × (slice_get code.raws index ≡ Some (raws.Class new_instance number))

-- the types that a frame spells, each with its place in the frame
pub data HasType : RawFrame → RawType → ℕ → Type 0 where
  with_one : {delta : ℕ} {stack : RawType} → HasType (frames.SameWithOne delta stack) stack 1
  extended : {delta : ℕ} {stack : RawType} → HasType (frames.SameWithOneExtended delta stack) stack 3
  append : {delta : ℕ} {locals : List RawType} (k : ℕ) (t : RawType) → slice_get locals k ≡ Some t → HasType (frames.Append delta locals) t (3 + length (flat_map type_bytes (take k locals)))
  in_locals : {delta : ℕ} {locals stack : List RawType} (k : ℕ) (t : RawType) → slice_get locals k ≡ Some t → HasType (frames.Full delta locals stack) t (5 + length (flat_map type_bytes (take k locals)))
  on_stack : {delta : ℕ} {locals stack : List RawType} (k : ℕ) (t : RawType) → slice_get stack k ≡ Some t
      → HasType (frames.Full delta locals stack) t (7 + length (flat_map type_bytes locals) + length (flat_map type_bytes (take k stack)))

-- the place in a frame of the number that says where it stands: the tag has a small one in itself
abbrev pub delta_place : RawFrame → ℕ
delta_place (frames.Same delta) = 0
delta_place (frames.SameWithOne delta stack) = 0
delta_place _ = 1

-- where the frame behind these stands (4.7.4)
abbrev pub next_offset : ℕ → List RawFrame → ℕ
next_offset next [] = next
next_offset next (f ∷ fs) = next_offset (next + delta_of f + 1) fs

-- The place in a StackMapTable's content of an item that breaks what it must meet.
pub data FramesBreak (pool : List PoolEntry) (first : Frame) (code : RawCode) (all : List RawFrame) : ℕ → Type 0 where
  -- the first number that names no class, or chop of too many locals
  named : {at : ℕ} → FirstBreaks pool first all at → FramesBreak pool first code all at
  stands : (k : ℕ) (f : RawFrame) → slice_get all k ≡ Some f → (Starts code.offsets (next_offset 0 (take k all) + delta_of f) → ⊥)
      → FramesBreak pool first code all (2 + length (flat_map frame_bytes (take k all)) + delta_place f)
  made : (k : ℕ) (f : RawFrame) (at place : ℕ) → slice_get all k ≡ Some f → HasType f (types.Uninitialized at) place → (IsNew code at → ⊥)
      → FramesBreak pool first code all (2 + length (flat_map frame_bytes (take k all)) + place + 1)

-- the place behind the code, from the start of the content
abbrev pub behind_code : RawBody → ℕ
behind_code raw = 8 + raw.len

-- the place of an attribute
abbrev pub attribute_place : RawBody → ℕ → ℕ
attribute_place raw k = behind_code raw + 2 + length (flat_map range_bytes raw.ranges) + 2 + length (flat_map attribute_bytes (take k raw.attributes))

-- The place of an item that breaks what it must meet, in a method with this start frame.
pub data Breaks (pool : List PoolEntry) (first : Frame) (raw : RawBody) : ℕ → Type 0 where
  -- code has 1 to 65,535 bytes (4.7.3)
  len : ((1 ≤ raw.len) × (raw.len ≤ 65535) → ⊥) → Breaks pool first raw 4
  insn : (k : ℕ) (r : Raw) (at place : ℕ) → slice_get raw.code.raws k ≡ Some r → slice_get raw.code.offsets k ≡ Some at → InsnBreaks pool raw.code.offsets at r place
      → Breaks pool first raw (8 + at + place)
  range : (k : ℕ) (r : RawRange) (place : ℕ) → slice_get raw.ranges k ≡ Some r → RangeBreaks pool raw.code.offsets raw.len r place
      → Breaks pool first raw (behind_code raw + 2 + length (flat_map range_bytes (take k raw.ranges)) + place)
  -- there is one StackMapTable at most
  twice : (j k name other : ℕ) (fs gs : List RawFrame) → j < k → slice_get raw.attributes j ≡ Some (attributes.Frames name fs) → slice_get raw.attributes k ≡ Some (attributes.Frames other gs)
      → Breaks pool first raw (attribute_place raw k)
  frame : (k name place : ℕ) (fs : List RawFrame) → slice_get raw.attributes k ≡ Some (attributes.Frames name fs) → FramesBreak pool first raw.code fs place
      → Breaks pool first raw (attribute_place raw k + 6 + place)

-- the first item that breaks what it must meet
pub record FirstBreak (pool : List PoolEntry) (first : Frame) (raw : RawBody) (at : ℕ) : Type 0 where
  pub breaks : Breaks pool first raw at
  pub none : (before : ℕ) → before < at → Breaks pool first raw before → ⊥

-- each item meets what it must
abbrev pub IsSound : List PoolEntry → Frame → RawBody → Type 0
IsSound pool first raw = (at : ℕ) → Breaks pool first raw at → ⊥
