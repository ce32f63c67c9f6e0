-- The items of a Code attribute's content, part by part, by their places from the start of the content.
use Rattle.std.specs.Prelude.{◌≡◌, ℕ, ◌+◌, ◌*◌, ◌<◌, ◌<ℤ◌, ℤ, List, length, take, slice_get, slice_index, Some, ◌⊎◌}
use Rattle.std.specs.List.{flat_map, AllByRecursion}
use Rattle.std.specs.List.Sorted.{IsStrictlyIncreasing}
use Rattle.wv_base.specs.declared.class_file.PoolEntry.{PoolEntry}
use Rattle.wv_base.specs.declared.frame.Frame.{Frame}
use Rattle.wv_insn.specs.declared.raw.Raw.{Raw}
use Rattle.wv_insn.specs.declared.raw.RawCase.{RawCase}
use Rattle.wv_insn.specs.Spelling.{IsInstruction, IsTyped}
use Rattle.wv_frames.specs.declared.raw.RawType.{RawType}
use Rattle.wv_frames.specs.declared.raw.RawType.TheVariants as types
use Rattle.wv_frames.specs.declared.raw.RawFrame.{RawFrame}
use Rattle.wv_frames.specs.Spelling.{type_bytes, frame_bytes}
use Rattle.wv_frames.specs.Whole.{delta_of}
use Rattle.wv_code.specs.declared.splitting.RawCode.{RawCode}
use Rattle.wv_code.specs.declared.raw_body.RawRange.{RawRange}
use Rattle.wv_code.specs.declared.raw_body.RawAttribute.{RawAttribute}
use Rattle.wv_code.specs.declared.raw_body.RawAttribute.TheVariants as attributes
use Rattle.wv_code.specs.Content.{attribute_bytes}
use Rattle.wv_code.specs.Breaks.{Starts, Lands, InsnBreaks, RangeBreaks, IsNew, HasType, delta_place, next_offset, FramesBreak}
use Rattle.wv_code.specs.Least.{Broken, Behind}

-- the instructions of code stand one behind the other, before its end
pub record AreStarts (code : RawCode) (len : ℕ) : Type 0 where
  pub ascend : IsStrictlyIncreasing code.offsets
  pub many : length code.raws ≡ length code.offsets
  pub within : AllByRecursion (λ o. o < len) code.offsets
  pub typed : AllByRecursion IsTyped code.raws
  pub instructions : AllByRecursion IsInstruction code.raws

-- the key is above the one before it
abbrev pub IsAbove : List RawCase → ℕ → RawCase → Type 0
IsAbove cases k case = (j : ℕ) (before : RawCase) → k ≡ j + 1 → slice_get cases j ≡ Some before → before.key <ℤ case.key

-- the places of a switch's distances, where the first stands at the base
abbrev pub TargetBreaks : List ℕ → ℕ → ℕ → ℕ → ℤ → ℕ → Type 0
TargetBreaks offsets at base k distance = Broken (Lands offsets at distance) (base + 4 * k)

-- the places of a lookupswitch's keys and distances
abbrev pub CaseBreaks : List ℕ → ℕ → List RawCase → ℕ → ℕ → RawCase → ℕ → Type 0
CaseBreaks offsets at cases base k case n = Broken (IsAbove cases k case) (base + 8 * k) n ⊎ Broken (Lands offsets at case.offset) (base + 8 * k + 4) n

-- the places of an instruction
abbrev pub InsnAtBreaks : List PoolEntry → List ℕ → ℕ → Raw → ℕ → Type 0
InsnAtBreaks pool offsets k r = Behind (8 + slice_index offsets k) (InsnBreaks pool offsets (slice_index offsets k) r)

-- the places of a range
abbrev pub RangeAtBreaks : List PoolEntry → List ℕ → ℕ → ℕ → ℕ → RawRange → ℕ → Type 0
RangeAtBreaks pool offsets len base k r = Behind (base + 8 * k) (RangeBreaks pool offsets len r)

-- the place of a type's offset, where its tag stands at the base
abbrev pub MadeBreaks : RawCode → ℕ → RawType → ℕ → Type 0
MadeBreaks code base t n = (at : ℕ) × (t ≡ types.Uninitialized at) × Broken (IsNew code at) (base + 1) n

abbrev pub TypeAtBreaks : RawCode → List RawType → ℕ → ℕ → RawType → ℕ → Type 0
TypeAtBreaks code all base k = MadeBreaks code (base + length (flat_map type_bytes (take k all)))

-- the places of a frame's types
abbrev pub TypesBreak : RawCode → RawFrame → ℕ → Type 0
TypesBreak code f n = (at place : ℕ) × HasType f (types.Uninitialized at) place × Broken (IsNew code at) (place + 1) n

-- the places of a frame that stands at an offset
abbrev pub FrameBreaks : RawCode → ℕ → RawFrame → ℕ → Type 0
FrameBreaks code at f n = Broken (Starts code.offsets at) (delta_place f) n ⊎ TypesBreak code f n

abbrev pub FrameAtBreaks : RawCode → List RawFrame → ℕ → ℕ → RawFrame → ℕ → Type 0
FrameAtBreaks code all base k f = Behind (base + length (flat_map frame_bytes (take k all))) (FrameBreaks code (next_offset 0 (take k all) + delta_of f) f)

abbrev pub IsTable : RawAttribute → Type 0
IsTable (attributes.Frames name frames) = Unit {0}
IsTable (attributes.Kept a) = ⊥

-- one of the attributes is a StackMapTable
abbrev pub HasTable : List RawAttribute → Type 0
HasTable all = (k : ℕ) × (a : RawAttribute) × (slice_get all k ≡ Some a) × IsTable a

-- the places of the content of an attribute
abbrev pub ContentBreaks : List PoolEntry → Frame → RawCode → RawAttribute → ℕ → Type 0
ContentBreaks pool first code (attributes.Frames name frames) = FramesBreak pool first code frames
ContentBreaks pool first code (attributes.Kept a) = λ _. ⊥

abbrev pub AttributeBreaks : List PoolEntry → Frame → RawCode → List RawAttribute → RawAttribute → ℕ → Type 0
AttributeBreaks pool first code before a n = ((n ≡ 0) × IsTable a × HasTable before) ⊎ Behind 6 (ContentBreaks pool first code a) n

abbrev pub AttributeAtBreaks : List PoolEntry → Frame → RawCode → List RawAttribute → ℕ → ℕ → RawAttribute → ℕ → Type 0
AttributeAtBreaks pool first code all base k a = Behind (base + length (flat_map attribute_bytes (take k all))) (AttributeBreaks pool first code (take k all) a)
