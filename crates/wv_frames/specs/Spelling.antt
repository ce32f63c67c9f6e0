-- The bytes of a StackMapTable's content (JVM Specification 4.7.4).
use Rattle.std.specs.Prelude.{ℕ, ◌+◌, ◌-◌, ◌^◌, ◌<◌, ◌≤◌, List, [], ◌∷◌, ◌++◌, length}
use Rattle.std.specs.List.{flat_map, AllByRecursion}
use Rattle.wv_pool.specs.Entries.{number_bytes}
use Rattle.wv_frames.specs.declared.raw.RawType.{RawType}
use Rattle.wv_frames.specs.declared.raw.RawType.TheVariants as types
use Rattle.wv_frames.specs.declared.raw.RawFrame.{RawFrame}
use Rattle.wv_frames.specs.declared.raw.RawFrame.TheVariants as frames

-- a type is its tag, and a class's number or an offset
abbrev pub type_bytes : RawType → List ℕ
type_bytes types.Top = 0 ∷ []
type_bytes types.Int = 1 ∷ []
type_bytes types.Float = 2 ∷ []
type_bytes types.Double = 3 ∷ []
type_bytes types.Long = 4 ∷ []
type_bytes types.Null = 5 ∷ []
type_bytes types.UninitializedThis = 6 ∷ []
type_bytes (types.Object class) = 7 ∷ number_bytes class
type_bytes (types.Uninitialized at) = 8 ∷ number_bytes at

-- a list is its count and its types
abbrev pub list_bytes : List RawType → List ℕ
list_bytes all = number_bytes (length all) ++ flat_map type_bytes all

-- a frame is its tag, which may have the delta or a count in it, and what the tag asks for
abbrev pub frame_bytes : RawFrame → List ℕ
frame_bytes (frames.Same delta) = delta ∷ []
frame_bytes (frames.SameWithOne delta stack) = (64 + delta) ∷ type_bytes stack
frame_bytes (frames.SameWithOneExtended delta stack) = 247 ∷ (number_bytes delta ++ type_bytes stack)
frame_bytes (frames.Chop count delta) = (251 - count) ∷ number_bytes delta
frame_bytes (frames.SameExtended delta) = 251 ∷ number_bytes delta
frame_bytes (frames.Append delta locals) = (251 + length locals) ∷ (number_bytes delta ++ flat_map type_bytes locals)
frame_bytes (frames.Full delta locals stack) = 255 ∷ (number_bytes delta ++ (list_bytes locals ++ list_bytes stack))

-- a table is its count and its frames
abbrev pub table_bytes : List RawFrame → List ℕ
table_bytes all = number_bytes (length all) ++ flat_map frame_bytes all

-- a type whose number has room in its field
abbrev pub IsType : RawType → Type 0
IsType (types.Object class) = class < 2 ^ 16
IsType (types.Uninitialized at) = at < 2 ^ 16
IsType _ = Unit {0}

abbrev pub IsList : List RawType → Type 0
IsList all = (length all < 2 ^ 16) × AllByRecursion IsType all

-- a frame whose numbers have room in their fields, and that chops or appends one to three
abbrev pub IsFrame : RawFrame → Type 0
IsFrame (frames.Same delta) = delta < 64
IsFrame (frames.SameWithOne delta stack) = (delta < 64) × IsType stack
IsFrame (frames.SameWithOneExtended delta stack) = (delta < 2 ^ 16) × IsType stack
IsFrame (frames.Chop count delta) = (1 ≤ count) × (count ≤ 3) × (delta < 2 ^ 16)
IsFrame (frames.SameExtended delta) = delta < 2 ^ 16
IsFrame (frames.Append delta locals) = (1 ≤ length locals) × (length locals ≤ 3) × AllByRecursion IsType locals × (delta < 2 ^ 16)
IsFrame (frames.Full delta locals stack) = IsList locals × IsList stack × (delta < 2 ^ 16)

-- frames that a table can have
abbrev pub IsLayout : List RawFrame → Type 0
IsLayout all = (length all < 2 ^ 16) × AllByRecursion IsFrame all
