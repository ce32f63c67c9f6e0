-- The first number of a StackMapTable that names no class, or chop of too many locals (JVM Specification 4.7.4).
use Rattle.std.specs.Prelude.{◌≡◌, ℕ, ◌+◌, ◌<◌, List, [], ◌∷◌, ◌++◌, length, Some, None, IsSome, ◌⊎◌}
use Rattle.std.specs.List.{flat_map}
use Rattle.wv_base.specs.declared.class_file.PoolEntry.{PoolEntry}
use Rattle.wv_base.specs.declared.frame.VType.{VType}
use Rattle.wv_base.specs.declared.frame.Frame.{Frame}
use Rattle.wv_base.specs.declared.frame.FrameAt.{FrameAt}
use Rattle.wv_frames.specs.declared.raw.RawType.{RawType}
use Rattle.wv_frames.specs.declared.raw.RawFrame.{RawFrame}
use Rattle.wv_frames.specs.declared.raw.RawFrame.TheVariants as frames
use Rattle.wv_frames.specs.Spelling.{type_bytes, frame_bytes}
use Rattle.wv_frames.specs.Whole.{type_of, types_of, frames_from, locals_behind}

-- the first of the types, which begin at base, that names no class, and the place of its number behind its tag
pub record TypesBreak (pool : List PoolEntry) (all : List RawType) (base at : ℕ) : Type 0 where
  pub before : List RawType
  pub broken : RawType
  pub after : List RawType
  pub parts : all ≡ before ++ broken ∷ after
  pub named : IsSome (types_of pool before)
  pub unnamed : type_of pool broken ≡ None
  pub place : at ≡ base + length (flat_map type_bytes before) + 1

-- the place of the first field that breaks what it must meet, in a frame that begins at base
abbrev pub BreaksAt : List PoolEntry → List VType → RawFrame → ℕ → ℕ → Type 0
BreaksAt pool locals (frames.Same delta) base at = ⊥
BreaksAt pool locals (frames.SameWithOne delta stack) base at = TypesBreak pool (stack ∷ []) (base + 1) at
BreaksAt pool locals (frames.SameWithOneExtended delta stack) base at = TypesBreak pool (stack ∷ []) (base + 3) at
BreaksAt pool locals (frames.Chop count delta) base at = (at ≡ base) × (length locals < count)
BreaksAt pool locals (frames.SameExtended delta) base at = ⊥
BreaksAt pool locals (frames.Append delta more) base at = TypesBreak pool more (base + 3) at
BreaksAt pool locals (frames.Full delta all stack) base at =
    TypesBreak pool all (base + 5) at ⊎ (IsSome (types_of pool all) × TypesBreak pool stack (base + 7 + length (flat_map type_bytes all)) at)

-- the first frame that breaks what its fields must meet, and the place of the field, from the count on
pub record FirstBreaks (pool : List PoolEntry) (first : Frame) (all : List RawFrame) (at : ℕ) : Type 0 where
  pub before : List RawFrame
  pub broken : RawFrame
  pub after : List RawFrame
  pub parts : all ≡ before ++ broken ∷ after
  pub frames : List FrameAt
  pub whole : frames_from pool 0 first.locals before ≡ Some frames
  pub breaks : BreaksAt pool (locals_behind first.locals frames) broken (2 + length (flat_map frame_bytes before)) at
