use Rattle.std.proofs.Common.{◌≡◌, ℕ, ◌<◌, slice_index}
use Rattle.wv_version.proofs.term.begins_with.Given as goal

-- the numbers so far are the version's
abbrev pub invariant-loop-place : goal.invariant-loop-place
invariant-loop-place l = (i : ℕ) → i < l.place → slice_index l.version.numbers i ≡ slice_index l.numbers i
