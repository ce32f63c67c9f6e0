use Rattle.std.proofs.Common.{take, flat_map}
use Rattle.wv_front.specs.Listed.{class_names}
use Rattle.wv_weave.specs.ListedNames.{GrowsBy}
use Rattle.wv_weave.proofs.listed.ListedNames.add_all.Given as goal

-- the set has what the configurations so far list, besides what it had
abbrev pub invariant-loop-config : goal.invariant-loop-config
invariant-loop-config l = GrowsBy l.fn.self l.self (flat_map (λ loaded. class_names loaded.config) (take l.config-index l.configs))
