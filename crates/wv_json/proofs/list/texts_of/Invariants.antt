use Rattle.std.proofs.Common.{◌≡◌, map, take}
use Rattle.serde_json.specs.Data.{string}
use Rattle.serde_json.specs.View.{view}
use Rattle.wv_json.proofs.list.texts_of.Given as goal

-- the items so far are the texts so far
abbrev pub invariant-loop-item : goal.invariant-loop-item
invariant-loop-item l = map string l.texts ≡ map view (take l.item-index l.list)
