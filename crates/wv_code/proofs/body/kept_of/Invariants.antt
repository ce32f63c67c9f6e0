use Rattle.std.proofs.Common.{◌≡◌, ◌++◌, length, reverse}
use Rattle.std.specs.List.{flat_map}
use Rattle.wv_code.specs.Body.{kept_in}
use Rattle.wv_code.proofs.body.kept_of.Given as goal

abbrev pub invariant-loop-attribute : goal.invariant-loop-attribute
invariant-loop-attribute l = flat_map (kept_in l.pool) l.initial.attributes ≡ flat_map (kept_in l.pool) l.attributes ++ reverse l.kept.items

abbrev pub decreases-loop-attribute : goal.decreases-loop-attribute
decreases-loop-attribute l = length l.attributes
