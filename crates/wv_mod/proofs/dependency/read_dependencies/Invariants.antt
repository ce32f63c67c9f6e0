use Rattle.std.proofs.Common.{take}
use Rattle.wv_mod.specs.Dependency.{AreDependencies}
use Rattle.wv_mod.proofs.dependency.read_dependencies.Given as goal

-- the entries so far are read as the dependencies so far
abbrev pub invariant-loop-entry : goal.invariant-loop-entry
invariant-loop-entry l = AreDependencies (take l.entry-index l.entries) l.dependencies
