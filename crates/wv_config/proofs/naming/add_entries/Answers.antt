use Rattle.std.proofs.Common.{◌≡◌, ◌+◌, ◌≤◌, List, Some, length, refl, subst, sym}
use Rattle.std.specs.List.{slice_get}
use Rattle.std.proofs.lemmas.Option.{slice_get_read}
use Rattle.wv_mod.specs.declared.mixin.MixinConfig.{MixinConfig}
use Rattle.wv_config.specs.Entries.{AreEntriesTo}
use Rattle.wv_config.proofs.Entering.{entries-push, entries-next}
use Rattle.wv_config.proofs.naming.add_entries.Goals as goal

pub loop-place-preserved : goal.loop-place-preserved
loop-place-preserved c = λ mods there before.
    let mixins = c.as_slice-mixin-items.result.now in
    let place = c.loop-place.place in
    let mixin = c.mixin-item.result in
    let entry_there = subst (λ (list : List MixinConfig). slice_get list place ≡ Some mixin) c.as_slice-mixin-items.ensures (slice_get_read mixins (length mixins) place mixin refl c.loop-place-test.true c.mixin-item.is) in
    subst (AreEntriesTo c.args.side mods c.args.mod_place (place + 1)) (sym c.in_ok-push.ensures.items)
    (entries-push c.args.side mods c.args.mod_place place c.loop-place.entries.items (c.loop-place.invariant mods there before) c.args.info.now there mixin c.in_ok-of.field-0 entry_there c.in_ok-of.ensures.of c.in_ok-of.ensures.mod_place c.in_ok-of.ensures.place)

pub returns : goal.returns
returns c = λ mods there before.
    entries-next c.args.side mods c.args.mod_place c.loop-place.place c.loop-place.entries.items (c.loop-place.invariant mods there before) c.args.info.now there
    (subst (λ (list : List MixinConfig). length list ≤ c.loop-place.place) c.as_slice-mixin-items.ensures c.loop-place-test.false)
