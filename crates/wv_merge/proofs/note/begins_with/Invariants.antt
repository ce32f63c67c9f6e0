use Rattle.std.proofs.Common.{◌≡◌, take}
use Rattle.wv_merge.proofs.note.begins_with.Given as goal

abbrev pub invariant-loop-place : goal.invariant-loop-place
invariant-loop-place l = take l.place l.units ≡ take l.place l.bytes
