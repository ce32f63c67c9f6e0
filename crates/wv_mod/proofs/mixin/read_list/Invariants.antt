use Rattle.std.proofs.Common.{take}
use Rattle.serde_json.specs.View.{items_view}
use Rattle.wv_mod.specs.Mixins.{AreMixins}
use Rattle.wv_mod.proofs.mixin.read_list.Given as goal

-- the items so far are the configurations so far
abbrev pub invariant-loop-item : goal.invariant-loop-item
invariant-loop-item l = AreMixins (items_view (take l.item-index l.list)) l.mixins
