-- How a body is written.
use Rattle.std.specs.Prelude.{ℕ, ◌++◌, ◌^◌, ◌<◌, List, [], ◌∷◌, length}
use Rattle.std.specs.List.{flat_map, AllByRecursion}
use Rattle.wv_base.specs.declared.class_file.PoolEntry.{PoolEntry}
use Rattle.wv_base.specs.declared.class_file.Attribute.{Attribute}
use Rattle.wv_base.specs.declared.class_file.Body.{Body}
use Rattle.wv_base.specs.declared.frame.VType.{VType}
use Rattle.wv_base.specs.declared.frame.VType.TheVariants as vtypes
use Rattle.wv_base.specs.declared.frame.Frame.{Frame}
use Rattle.wv_base.specs.declared.frame.FrameAt.{FrameAt}
use Rattle.wv_base.specs.declared.insn.Insn.{Insn}
use Rattle.wv_pool.specs.Entries.{number_bytes}
use Rattle.wv_frames.specs.Whole.{Spells as SpellsFrames}
use Rattle.wv_code.specs.declared.raw_body.RawRange.{RawRange}
use Rattle.wv_code.specs.Code.{AreWidened}
use Rattle.wv_code.specs.Content.{length_bytes, range_bytes, named_bytes, NamesFrames}
use Rattle.wv_code.specs.Body.{AreFramesOf, Spells}

-- an attribute, whatever its name is
abbrev pub written_bytes : Attribute → List ℕ
written_bytes a = named_bytes a.name a.content

-- an attribute has bytes, of which its length has room for as many
abbrev pub HasRoom : Attribute → Type 0
HasRoom a = length a.content < 2 ^ 32

abbrev pub HasBytes : Attribute → Type 0
HasBytes a = AllByRecursion (λ b. b < 256) a.content

-- the sizes, and the code with its length (4.7.3)
abbrev pub written_code : Body → List ℕ → List ℕ
written_code body code = number_bytes body.max_stack ++ (number_bytes body.max_locals ++ (length_bytes (length code) ++ code))

-- lists with their counts
abbrev pub written_ranges : List RawRange → List ℕ
written_ranges ranges = number_bytes (length ranges) ++ flat_map range_bytes ranges

abbrev pub written_attributes : List Attribute → List ℕ
written_attributes attributes = number_bytes (length attributes) ++ flat_map written_bytes attributes

-- the parts of a Code attribute's content
abbrev pub written_body : Body → List ℕ → List RawRange → List Attribute → List ℕ
written_body body code ranges attributes = written_code body code ++ (written_ranges ranges ++ written_attributes attributes)

-- a type whose object was made by one of so many instructions
abbrev pub IsWithin : ℕ → VType → Type 0
IsWithin count (vtypes.Uninitialized index) = index < count
IsWithin count _ = Unit {0}

-- a frame at one of so many instructions
abbrev pub AreWithin : ℕ → FrameAt → Type 0
AreWithin count one = (one.at < count) × AllByRecursion (IsWithin count) one.frame.locals × AllByRecursion (IsWithin count) one.frame.stack

-- the bytes are the content of a StackMapTable with these frames, with offsets in place of indices
pub record WritesFrames (pool : List PoolEntry) (offsets : List ℕ) (frames : List FrameAt) (first : Frame) (bytes : List ℕ) : Type 0 where
  pub spelled : List FrameAt
  pub frames_of : AreFramesOf offsets spelled frames
  pub table : SpellsFrames pool first bytes spelled

-- the attribute of these frames, if there are any
abbrev pub WritesTables : List PoolEntry → List ℕ → List FrameAt → Frame → List Attribute → Type 0
WritesTables pool offsets [] first [] = Unit {0}
WritesTables pool offsets (one ∷ others) first (a ∷ []) = (a.name < 2 ^ 16) × NamesFrames pool a.name × HasRoom a × WritesFrames pool offsets (one ∷ others) first a.content
WritesTables pool offsets _ first _ = ⊥

-- The bytes are the content of a Code attribute that means the body, in a method with this start frame: ldc_w stands in
-- place of an ldc whose constant has no number of one byte.
pub record WritesBody (pool : List PoolEntry) (first : Frame) (body : Body) (bytes : List ℕ) : Type 0 where
  pub others : List Insn
  pub widened_are : AreWidened pool body.insns others
  pub spelled : Spells pool first bytes (record body { insns = others })
