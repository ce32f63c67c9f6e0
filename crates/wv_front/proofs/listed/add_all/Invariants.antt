use Rattle.std.proofs.Common.{◌≡◌, ◌++◌, take}
use Rattle.wv_front.specs.Listing.{values}
use Rattle.wv_front.proofs.listed.add_all.Given as goal

-- those so far stand behind those before
abbrev pub invariant-loop-config : goal.invariant-loop-config
invariant-loop-config l = values l.ordered.items ≡ values l.initial.ordered.items ++ take l.config-index l.configs
