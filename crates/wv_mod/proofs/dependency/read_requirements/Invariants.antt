use Rattle.std.proofs.Common.{take}
use Rattle.wv_mod.specs.Dependency.{AreRequirements}
use Rattle.wv_mod.proofs.dependency.read_requirements.Given as goal

-- the texts so far are read as the requirements so far
abbrev pub invariant-loop-text : goal.invariant-loop-text
invariant-loop-text l = AreRequirements (take l.text-index l.texts) l.requirements
