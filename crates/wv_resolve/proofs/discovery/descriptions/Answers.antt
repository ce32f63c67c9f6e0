use Rattle.std.proofs.Common.{◌≡◌, List, ℕ, Bor, [], true, get_or, ap, subst, sym, ◌∙◌}
use Rattle.std.specs.Result.{is_ok}
use Rattle.std.proofs.lemmas.List.{get_or_default}
use Rattle.std.proofs.lemmas.Result.{err_from_is_err_and}
use Rattle.wv_mod.proofs.Relating.{relates-push}
use Rattle.wv_resolve.specs.Finding.{AreModFolders, texts_at, IsDescriptionIn}
use Rattle.wv_resolve.proofs.Described.{lacking, all-described}
use Rattle.wv_resolve.proofs.discovery.descriptions.Goals as goal

pub returns-in_err-description-clause-missing : goal.returns-in_err-description-clause-missing
returns-in_err-description-clause-missing c =
    let names = c.as_slice-name-items.result.now in
    let nothing : Bor (List ℕ) = record { ref_ptr = (0, 0); now = [] } in
    let name = get_or names c.loop-name.name-index nothing in
    let folders = subst (λ (ns : List (Bor (List ℕ))). AreModFolders c.args.folder.now (texts_at ns)) (sym c.as_slice-name-items.ensures.value) c.in_ok-names.ensures in
    let p = err_from_is_err_and c.from_residual-in_err-description.result c.from_residual-in_err-description.ensures.1 in
    rw (p.1, p.2)
    (lacking c.args.folder.now names c.loop-name.name-index c.loop-name.descriptions.items name c.in_err-description.field-0.0 folders c.loop-name-test.true (get_or_default names c.loop-name.name-index nothing name c.loop-name-test.true) c.loop-name.invariant c.in_err-description.ensures.missing)

pub loop-name-preserved : goal.loop-name-preserved
loop-name-preserved c =
    let names = c.as_slice-name-items.result.now in
    let nothing : Bor (List ℕ) = record { ref_ptr = (0, 0); now = [] } in
    let name = get_or names c.loop-name.name-index nothing in
    let pushed : is_ok c.push.result ≡ true = sym c.map_err.ensures.variant ∙ ap is_ok c.in_ok-map_err.was in
    rw (c.push.ensures.items, pushed)
    (relates-push (λ (name : Bor (List ℕ)). IsDescriptionIn c.args.folder.now name.now) names c.loop-name.name-index c.loop-name.descriptions.items name c.in_ok-description.description c.loop-name-test.true (get_or_default names c.loop-name.name-index nothing name c.loop-name-test.true) c.loop-name.invariant c.in_ok-description.ensures.found)

pub returns-clause-found : goal.returns-clause-found
returns-clause-found c =
    all-described c.args.folder.now c.as_slice-name-items.result.now c.loop-name.name-index c.loop-name.descriptions.items
    (subst (λ (ns : List (Bor (List ℕ))). AreModFolders c.args.folder.now (texts_at ns)) (sym c.as_slice-name-items.ensures.value) c.in_ok-names.ensures)
    c.loop-name-test.false c.loop-name.invariant
