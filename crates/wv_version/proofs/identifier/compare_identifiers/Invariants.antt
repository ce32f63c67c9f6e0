use Rattle.std.proofs.Common.{◌≡◌, ℕ, ◌<◌, length, slice_get}
use Rattle.wv_version.proofs.identifier.compare_identifiers.Given as goal

-- no identifier differs so far
abbrev pub invariant-loop-left : goal.invariant-loop-left
invariant-loop-left l = (i : ℕ) → i < length l.yielded → slice_get l.list i ≡ slice_get l.other i
