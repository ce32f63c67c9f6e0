-- The body that the content of a Code attribute means (JVM Specification 4.7.3 and 4.7.4): instruction indices in place of
-- offsets, names in place of numbers, and whole frames.
use Rattle.std.specs.Prelude.{◌≡◌, ℕ, nat_le, List, [], ◌∷◌, length, slice_get, Option, Some, None, Result, Ok, Err, if◌then◌else◌, ◌⊎◌}
use Rattle.std.specs.List.{flat_map, AllByRecursion}
use Rattle.wv_base.specs.declared.class_file.PoolEntry.{PoolEntry}
use Rattle.wv_base.specs.declared.class_file.Attribute.{Attribute}
use Rattle.wv_base.specs.declared.class_file.ExceptionRange.{ExceptionRange}
use Rattle.wv_base.specs.declared.class_file.Body.{Body}
use Rattle.wv_base.specs.declared.fault.ClassFault.{ClassFault}
use Rattle.wv_base.specs.declared.fault.ClassFault.TheVariants as faults
use Rattle.wv_base.specs.declared.frame.VType.{VType}
use Rattle.wv_base.specs.declared.frame.VType.TheVariants as vtypes
use Rattle.wv_base.specs.declared.frame.Frame.{Frame}
use Rattle.wv_base.specs.declared.frame.FrameAt.{FrameAt}
use Rattle.wv_pool.specs.Constants.{class_name}
use Rattle.wv_frames.specs.declared.raw.RawFrame.{RawFrame}
use Rattle.wv_frames.specs.Whole.{frames_from}
use Rattle.wv_code.specs.declared.raw_body.RawRange.{RawRange}
use Rattle.wv_code.specs.declared.raw_body.RawAttribute.{RawAttribute}
use Rattle.wv_code.specs.declared.raw_body.RawAttribute.TheVariants as attributes
use Rattle.wv_code.specs.declared.raw_body.RawBody.{RawBody}
use Rattle.wv_code.specs.Code.{AllMean}
use Rattle.wv_code.specs.Content.{IsContent, IsLayoutFault}
use Rattle.wv_code.specs.Breaks.{IsSound, FirstBreak}

-- the instruction with the index starts at the offset
abbrev pub IsAt : List ℕ → ℕ → ℕ → Type 0
IsAt offsets index at = slice_get offsets index ≡ Some at

-- a range ends where an instruction starts, or behind the last
abbrev pub IsEnd : List ℕ → ℕ → ℕ → ℕ → Type 0
IsEnd offsets len index at = IsAt offsets index at ⊎ ((index ≡ length offsets) × (at ≡ len))

-- what is caught: every class, or the one that the number names
abbrev pub Catches : List PoolEntry → ℕ → Option (List ℕ) → Type 0
Catches pool number None = number ≡ 0
Catches pool number (Some name) = class_name pool number ≡ Some name

abbrev pub IsRangeOf : List PoolEntry → List ℕ → ℕ → RawRange → ExceptionRange → Type 0
IsRangeOf pool offsets len raw r = IsAt offsets r.start raw.start × IsEnd offsets len r.end raw.end × IsAt offsets r.handler raw.handler × Catches pool raw.catch r.catch

abbrev pub AreRangesOf : List PoolEntry → List ℕ → ℕ → List RawRange → List ExceptionRange → Type 0
AreRangesOf pool offsets len [] [] = Unit {0}
AreRangesOf pool offsets len (raw ∷ raws) (r ∷ rs) = IsRangeOf pool offsets len raw r × AreRangesOf pool offsets len raws rs
AreRangesOf pool offsets len _ _ = ⊥

-- a type with the offset of a `new`, and the same with its index
abbrev pub IsTypeOf : List ℕ → VType → VType → Type 0
IsTypeOf offsets (vtypes.Uninitialized at) (vtypes.Uninitialized index) = IsAt offsets index at
IsTypeOf offsets (vtypes.Uninitialized at) _ = ⊥
IsTypeOf offsets raw t = raw ≡ t

abbrev pub AreTypesOf : List ℕ → List VType → List VType → Type 0
AreTypesOf offsets [] [] = Unit {0}
AreTypesOf offsets (raw ∷ raws) (t ∷ ts) = IsTypeOf offsets raw t × AreTypesOf offsets raws ts
AreTypesOf offsets _ _ = ⊥

-- a frame at an offset, and the same at an index
abbrev pub IsFrameOf : List ℕ → FrameAt → FrameAt → Type 0
IsFrameOf offsets raw f =
    IsAt offsets f.at raw.at × AreTypesOf offsets raw.frame.locals f.frame.locals × AreTypesOf offsets raw.frame.stack f.frame.stack
    × (raw.frame.this_uninitialized ≡ f.frame.this_uninitialized)

abbrev pub AreFramesOf : List ℕ → List FrameAt → List FrameAt → Type 0
AreFramesOf offsets [] [] = Unit {0}
AreFramesOf offsets (raw ∷ raws) (f ∷ fs) = IsFrameOf offsets raw f × AreFramesOf offsets raws fs
AreFramesOf offsets _ _ = ⊥

-- the frames of the StackMapTable, if there is one
abbrev pub table_in : RawAttribute → List RawFrame
table_in (attributes.Frames name frames) = frames
table_in (attributes.Kept a) = []

abbrev pub frames_in : List RawAttribute → List RawFrame
frames_in all = flat_map table_in all

-- A number behind the pool's last names nothing, as 0 does, and is kept as 0: another pool, in which it names something,
-- may begin with this one.
abbrev pub kept_name : List PoolEntry → ℕ → ℕ
kept_name pool name = if nat_le name (length pool) then name else 0

abbrev pub kept_in : List PoolEntry → RawAttribute → List Attribute
kept_in pool (attributes.Frames name frames) = []
kept_in pool (attributes.Kept a) = record { name = kept_name pool a.name; content = a.content } ∷ []

-- the body that the content means in a method with this start frame
pub record IsBodyOf (pool : List PoolEntry) (first : Frame) (raw : RawBody) (body : Body) : Type 0 where
  pub stack : body.max_stack ≡ raw.max_stack
  pub locals : body.max_locals ≡ raw.max_locals
  pub insns : AllMean pool raw.code.offsets raw.code.raws raw.code.offsets body.insns
  pub ranges : AreRangesOf pool raw.code.offsets raw.len raw.ranges body.ranges
  pub spelled : List FrameAt
  pub whole : frames_from pool 0 first.locals (frames_in raw.attributes) ≡ Some spelled
  pub frames : AreFramesOf raw.code.offsets spelled body.frames
  pub kept : body.kept ≡ flat_map (kept_in pool) raw.attributes

-- the bytes are the content of a Code attribute in which each item meets what it must, and mean this body
pub record Spells (pool : List PoolEntry) (first : Frame) (bytes : List ℕ) (body : Body) : Type 0 where
  pub raw : RawBody
  pub content : IsContent pool raw bytes
  pub sound : IsSound pool first raw
  pub means : IsBodyOf pool first raw body

-- no type of a start frame has an offset
abbrev pub IsPlaced : VType → Type 0
IsPlaced (vtypes.Uninitialized at) = ⊥
IsPlaced _ = Unit {0}

abbrev pub IsStart : Frame → Type 0
IsStart first = AllByRecursion IsPlaced first.locals

-- the answer is this body, unless memory ran out
abbrev pub GivesBody : Result Body ClassFault → Body → Type 0
GivesBody (Ok found) body = found ≡ body
GivesBody (Err e) body = e ≡ faults.Memory

-- the content breaks what it must meet first at the place
pub record IsReferenceFault (pool : List PoolEntry) (first : Frame) (bytes : List ℕ) (at : ℕ) : Type 0 where
  pub raw : RawBody
  pub content : IsContent pool raw bytes
  pub breaks : FirstBreak pool first raw at

-- the cause of a fault: one of the layout comes before every other
abbrev pub BodyBreaks : List PoolEntry → Frame → List ℕ → ClassFault → Type 0
BodyBreaks pool first bytes (faults.Layout at) = IsLayoutFault pool 0 bytes at
BodyBreaks pool first bytes (faults.Reference at) = IsReferenceFault pool first bytes at
BodyBreaks pool first bytes faults.Memory = Unit {0}
