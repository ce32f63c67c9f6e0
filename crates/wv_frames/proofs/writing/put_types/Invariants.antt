use Rattle.std.proofs.Common.{◌≡◌, ◌++◌, take}
use Rattle.std.specs.List.{flat_map}
use Rattle.wv_frames.specs.Spelling.{type_bytes}
use Rattle.wv_frames.proofs.writing.put_types.Given as goal

abbrev pub invariant-loop-one : goal.invariant-loop-one
invariant-loop-one l = l.out.items ≡ l.initial.out.items ++ flat_map type_bytes (take l.one-index l.raw)
