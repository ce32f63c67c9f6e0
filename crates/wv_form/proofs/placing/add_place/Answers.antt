use Rattle.std.proofs.Common.{◌≡◌, ap, ◌∙◌}
use Rattle.std.proofs.lemmas.Map.Text.{btree_map_updates_str}
use Rattle.wv_form.specs.Placing.{placed, place_of}
use Rattle.wv_form.proofs.PlaceTables.{tells-more}
use Rattle.wv_form.proofs.placing.add_place.Goals as goal

pub returns : goal.returns
returns c = λ pairs h.
    let place : c.placed-place.result ≡ placed (place_of c.args.table.now c.args.key.now) c.args.path = c.placed-place.ensures ∙ ap (λ o. placed o c.args.path) (c.copied.ensures ∙ c.get.ensures.value) in
    tells-more pairs c.args.key.now c.args.path c.args.table.now c.insert.new.self h
    (btree_map_updates_str c.args.key.now c.args.table.now c.insert.new.self _ (rw place at c.in_ok-insert.ensures.updates))
