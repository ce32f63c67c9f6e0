use Rattle.std.proofs.Common.{◌≡◌, ◌++◌, length, take}
use Rattle.std.specs.List.{flat_map}
use Rattle.wv_pool.specs.Entries.{number_bytes}
use Rattle.wv_frames.specs.Spelling.{frame_bytes}
use Rattle.wv_frames.proofs.writing.table_to_bytes.Given as goal

abbrev pub invariant-loop-one : goal.invariant-loop-one
invariant-loop-one l = l.out.items ≡ number_bytes (length l.raw) ++ flat_map frame_bytes (take l.one-index l.raw)
