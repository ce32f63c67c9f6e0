use Rattle.wv_config.specs.declared.loaded.Configs.{Configs}
use Rattle.wv_weave.specs.ListedNames.{HasNames, listed_names}
use Rattle.wv_weave.proofs.KeptPairs.{AreKeptOf}
use Rattle.wv_weave.proofs.outgoing.kept.Given as goal

-- what is kept of the classes so far
abbrev pub invariant-loop-class : goal.invariant-loop-class
invariant-loop-class l = (configs : Configs) → HasNames (listed_names configs) l.listed → AreKeptOf configs l.yielded l.kept.items
