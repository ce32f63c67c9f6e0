use Rattle.std.proofs.Common.{◌≡◌, [], take}
use Rattle.wv_code.specs.Body.{frames_in}
use Rattle.wv_code.proofs.body.frames_in.Given as goal

abbrev pub invariant-loop-attribute : goal.invariant-loop-attribute
invariant-loop-attribute l = frames_in (take l.attribute-index l.attributes) ≡ []
