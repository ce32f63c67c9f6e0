use Rattle.std.proofs.Common.{take}
use Rattle.wv_resolve.specs.Finding.{texts_at}
use Rattle.wv_classes.specs.Roots.{HasExactly}
use Rattle.wv_classes.proofs.roots.set_of.Given as goal

-- the set has the names so far
abbrev pub invariant-loop-name : goal.invariant-loop-name
invariant-loop-name l = HasExactly (texts_at (take l.name-index l.names)) l.set
