use Rattle.std.proofs.Common.{take, map}
use Rattle.wv_config.specs.Slashes.{class_of}
use Rattle.wv_weave.specs.ListedNames.{GrowsBy}
use Rattle.wv_weave.proofs.listed.ListedNames.add.Given as goal

-- the set has the classes of the entries so far, besides those that it had
abbrev pub invariant-loop-entry : goal.invariant-loop-entry
invariant-loop-entry l = GrowsBy l.fn.self l.self (map (class_of l.config.«package») (take l.entry-index l.entries))
