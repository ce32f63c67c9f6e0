-- The whole frames that a StackMapTable spells (JVM Specification 4.7.4), each by the locals of the one before.
use Rattle.std.specs.Prelude.{◌≡◌, ℕ, ◌+◌, ◌-◌, Bool, true, false, nat_le, if◌then◌else◌, List, [], ◌∷◌, ◌++◌, length, take, Option, Some, None}
use Rattle.std.specs.Option.{option_map, option_and_then}
use Rattle.std.specs.List.{list_any}
use Rattle.wv_base.specs.declared.class_file.PoolEntry.{PoolEntry}
use Rattle.wv_base.specs.declared.frame.VType.{VType}
use Rattle.wv_base.specs.declared.frame.VType.TheVariants as vtypes
use Rattle.wv_base.specs.declared.frame.Frame.{Frame}
use Rattle.wv_base.specs.declared.frame.FrameAt.{FrameAt}
use Rattle.wv_pool.specs.Constants.{class_name}
use Rattle.wv_frames.specs.declared.raw.RawType.{RawType}
use Rattle.wv_frames.specs.declared.raw.RawType.TheVariants as types
use Rattle.wv_frames.specs.declared.raw.RawFrame.{RawFrame}
use Rattle.wv_frames.specs.declared.raw.RawFrame.TheVariants as frames
use Rattle.wv_frames.specs.Spelling.{table_bytes, IsLayout}

-- the type that is spelled so; none where the number names no class
abbrev pub type_of : List PoolEntry → RawType → Option VType
type_of pool types.Top = Some vtypes.Top
type_of pool types.Int = Some vtypes.Int
type_of pool types.Float = Some vtypes.Float
type_of pool types.Double = Some vtypes.Double
type_of pool types.Long = Some vtypes.Long
type_of pool types.Null = Some vtypes.Null
type_of pool types.UninitializedThis = Some vtypes.UninitializedThis
type_of pool (types.Object class) = option_map (λ name. vtypes.Class name) (class_name pool class)
type_of pool (types.Uninitialized at) = Some (vtypes.Uninitialized at)

abbrev pub types_of : List PoolEntry → List RawType → Option (List VType)
types_of pool [] = Some []
types_of pool (raw ∷ others) = option_and_then (λ type. option_map (λ rest. type ∷ rest) (types_of pool others)) (type_of pool raw)

abbrev pub is_this : VType → Bool
is_this vtypes.UninitializedThis = true
is_this _ = false

-- a frame's flag is set where a local is `this` before its initialization (4.10.1.4)
abbrev pub frame_of : List VType → List VType → Frame
frame_of locals stack = record { locals = locals; stack = stack; this_uninitialized = list_any is_this locals }

-- a frame behind one with these locals; none where a number names no class, or more locals are chopped than there are
abbrev pub frame_after : List PoolEntry → List VType → RawFrame → Option Frame
frame_after pool locals (frames.Same delta) = Some (frame_of locals [])
frame_after pool locals (frames.SameWithOne delta stack) = option_map (λ top. frame_of locals (top ∷ [])) (type_of pool stack)
frame_after pool locals (frames.SameWithOneExtended delta stack) = option_map (λ top. frame_of locals (top ∷ [])) (type_of pool stack)
frame_after pool locals (frames.Chop count delta) = if nat_le count (length locals) then Some (frame_of (take (length locals - count) locals) []) else None
frame_after pool locals (frames.SameExtended delta) = Some (frame_of locals [])
frame_after pool locals (frames.Append delta more) = option_map (λ last. frame_of (locals ++ last) []) (types_of pool more)
frame_after pool locals (frames.Full delta all stack) = option_and_then (λ first. option_map (λ items. frame_of first items) (types_of pool stack)) (types_of pool all)

abbrev pub delta_of : RawFrame → ℕ
delta_of (frames.Same delta) = delta
delta_of (frames.SameWithOne delta stack) = delta
delta_of (frames.SameWithOneExtended delta stack) = delta
delta_of (frames.Chop count delta) = delta
delta_of (frames.SameExtended delta) = delta
delta_of (frames.Append delta locals) = delta
delta_of (frames.Full delta locals stack) = delta

-- the frames from an offset on, behind one with these locals: the next offset is the delta more, and one more behind it
abbrev pub frames_from : List PoolEntry → ℕ → List VType → List RawFrame → Option (List FrameAt)
frames_from pool next locals [] = Some []
frames_from pool next locals (raw ∷ others) =
    option_and_then (λ frame. option_map (λ rest. record { at = next + delta_of raw; frame = frame } ∷ rest) (frames_from pool (next + delta_of raw + 1) frame.locals others)) (frame_after pool locals raw)

-- the locals of the last frame, or those before the first
abbrev pub locals_behind : List VType → List FrameAt → List VType
locals_behind locals [] = locals
locals_behind locals (one ∷ others) = locals_behind one.frame.locals others

-- the content of a StackMapTable that has these frames, in a method with this start frame
pub record Spells (pool : List PoolEntry) (first : Frame) (bytes : List ℕ) (all : List FrameAt) : Type 0 where
  pub raw : List RawFrame
  pub layout : IsLayout raw
  pub spelled : bytes ≡ table_bytes raw
  pub whole : frames_from pool 0 first.locals raw ≡ Some all
