use Rattle.std.proofs.Common.{◌≡◌, ℕ, ◌<◌, slice_index}
use Rattle.wv_version.proofs.dotted.compare_numbers.Given as goal

-- no number differs so far
abbrev pub invariant-loop-place : goal.invariant-loop-place
invariant-loop-place l = (i : ℕ) → i < l.place → slice_index l.numbers i ≡ slice_index l.other i
