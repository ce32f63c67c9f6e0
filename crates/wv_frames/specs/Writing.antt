-- The frames that a StackMapTable can have, and the constants that they need (JVM Specification 4.7.4).
use Rattle.std.specs.Prelude.{◌≡◌, ℕ, ◌+◌, ◌^◌, ◌<◌, ◌≤◌, List, [], ◌∷◌, ◌++◌, length}
use Rattle.std.specs.List.{list_any, AllByRecursion}
use Rattle.wv_base.specs.declared.constant.Const.{Const}
use Rattle.wv_base.specs.declared.frame.VType.{VType}
use Rattle.wv_base.specs.declared.frame.VType.TheVariants as vtypes
use Rattle.wv_base.specs.declared.frame.Frame.{Frame}
use Rattle.wv_base.specs.declared.frame.FrameAt.{FrameAt}
use Rattle.wv_pool.specs.Adding.{class_needs}
use Rattle.wv_pool.specs.Allowed.{IsClassText}
use Rattle.wv_frames.specs.Whole.{is_this}

-- a type whose class a pool may hold and whose offset has room
abbrev pub IsWritableType : VType → Type 0
IsWritableType (vtypes.Class name) = IsClassText name
IsWritableType (vtypes.Uninitialized at) = at < 2 ^ 16
IsWritableType _ = Unit {0}

abbrev pub AreWritable : List VType → Type 0
AreWritable all = (length all < 2 ^ 16) × AllByRecursion IsWritableType all

-- the flag is set where a local is `this` before its initialization (4.10.1.4)
abbrev pub IsWritableFrame : Frame → Type 0
IsWritableFrame frame = AreWritable frame.locals × AreWritable frame.stack × (frame.this_uninitialized ≡ list_any is_this frame.locals)

-- frames whose offsets ascend from this one on
abbrev pub AreFrom : ℕ → List FrameAt → Type 0
AreFrom next [] = Unit {0}
AreFrom next (one ∷ others) = (next ≤ one.at) × (one.at < 2 ^ 16) × IsWritableFrame one.frame × AreFrom (one.at + 1) others

abbrev pub IsWritable : List FrameAt → Type 0
IsWritable all = (length all < 2 ^ 16) × AreFrom 0 all

-- the constants of a type, a list of types, a frame and frames, the last first
abbrev pub type_needs : VType → List Const
type_needs (vtypes.Class name) = class_needs name
type_needs _ = []

abbrev pub types_need : List VType → List Const
types_need [] = []
types_need (one ∷ others) = types_need others ++ type_needs one

abbrev pub frame_needs : Frame → List Const
frame_needs frame = types_need frame.stack ++ types_need frame.locals

abbrev pub frames_need : List FrameAt → List Const
frames_need [] = []
frames_need (one ∷ others) = frames_need others ++ frame_needs one.frame
