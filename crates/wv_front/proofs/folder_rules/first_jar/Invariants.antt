use Rattle.std.proofs.Common.{take}
use Rattle.wv_mod.specs.FirstBroken.{IsKept}
use Rattle.wv_front.specs.Opening.{HasJar}
use Rattle.wv_front.proofs.folder_rules.first_jar.Given as goal

-- no path so far ends in `.jar`
abbrev pub invariant-loop-path : goal.invariant-loop-path
invariant-loop-path l = IsKept (HasJar (take l.path-index l.path-items))
