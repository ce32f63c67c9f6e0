use Rattle.std.proofs.Common.{◌≡◌, ◌++◌, take}
use Rattle.std.specs.List.{flat_map}
use Rattle.wv_code.specs.BodyConstants.{frame_constants}
use Rattle.wv_code.proofs.body_constants.push_frames.Given as goal

abbrev pub invariant-loop-one : goal.invariant-loop-one
invariant-loop-one l = l.out ≡ l.initial.out ++ flat_map frame_constants (take l.one-index l.frames)
