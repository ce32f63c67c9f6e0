-- Where the bytes first break the layout of a StackMapTable.
use Rattle.std.specs.Prelude.{◌≡◌, ℕ, ◌+◌, ◌<◌, ◌≤◌, List, ◌++◌, length, take}
use Rattle.wv_frames.specs.declared.raw.RawFrame.{RawFrame}
use Rattle.wv_frames.specs.Spelling.{table_bytes, IsLayout}

-- some table of this size begins with these bytes
pub record BeginsTable (size : ℕ) (front : List ℕ) : Type 0 where
  pub frames : List RawFrame
  pub more : List ℕ
  pub layout : IsLayout frames
  pub bytes : front ++ more ≡ table_bytes frames
  pub sized : length (table_bytes frames) ≡ size

-- The bytes begin the content of an attribute that has so many bytes more, which are missing; and this is where that content first
-- fails to be a table of its size: some table of the size begins with the bytes before the place, if there are any, and none with one
-- byte more. Where the bytes end, others are missing, or no table of the size begins with them.
pub record IsLayoutFault (missing : ℕ) (bytes : List ℕ) (at : ℕ) : Type 0 where
  pub within : at ≤ length bytes
  pub begun : 0 < at → BeginsTable (length bytes + missing) (take at bytes)
  pub none : at < length bytes → BeginsTable (length bytes + missing) (take (at + 1) bytes) → ⊥
  pub ended : at ≡ length bytes → BeginsTable (length bytes + missing) bytes → 0 < missing
