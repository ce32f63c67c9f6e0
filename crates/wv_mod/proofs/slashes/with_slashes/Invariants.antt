use Rattle.std.proofs.Common.{◌≡◌}
use Rattle.std.specs.String.{string_bytes}
use Rattle.wv_mod.proofs.Slashing.{joined}
use Rattle.wv_mod.proofs.slashes.with_slashes.Given as goal

abbrev pub invariant-loop-place : goal.invariant-loop-place
invariant-loop-place l = string_bytes l.slashed ≡ joined l.yielded
