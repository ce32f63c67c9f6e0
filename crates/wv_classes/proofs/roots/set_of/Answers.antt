use Rattle.std.proofs.Common.{List, ℕ, Bor, [], get_or}
use Rattle.std.proofs.lemmas.List.{get_or_default}
use Rattle.wv_classes.proofs.Sets.{set-more}
use Rattle.wv_classes.proofs.roots.set_of.Goals as goal

pub loop-name-preserved : goal.loop-name-preserved
loop-name-preserved c =
    let names = c.args.names.now in
    let i = c.loop-name.name-index in
    let nothing : Bor (List ℕ) = record { ref_ptr = (0, 0); now = [] } in
    let name = get_or names i nothing in
    set-more names i name c.loop-name.set c.insert.new.self c.loop-name-test.true (get_or_default names i nothing name c.loop-name-test.true)
    (λ text. c.in_ok-insert.ensures.updates.0 (record { ref_ptr = (0, 0); now = text }))
    c.loop-name.invariant
