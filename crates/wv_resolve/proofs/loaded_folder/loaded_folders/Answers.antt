use Rattle.std.proofs.Common.{List, ℕ, Bor, [], get_or, subst, sym}
use Rattle.std.proofs.lemmas.List.{get_or_default}
use Rattle.wv_resolve.specs.Finding.{AreModFolders, texts_at}
use Rattle.wv_resolve.proofs.Loaded.{loaded-skip, loaded-push, all-loaded}
use Rattle.wv_resolve.proofs.loaded_folder.loaded_folders.Goals as goal
use Rattle.wv_resolve.proofs.loaded_folder.loaded_folders.Goals.{then-branch+in_ok-push, else-branch}

pub loop-name-preserved : goal.loop-name-preserved
loop-name-preserved c =
    let folder = c.args.folder.now in
    let names = c.as_slice-name-items.result.now in
    let i = c.loop-name.name-index in
    let nothing : Bor (List ℕ) = record { ref_ptr = (0, 0); now = [] } in
    let name = get_or names i nothing in
    let at = get_or_default names i nothing name c.loop-name-test.true in
    elim c.if-branch.branch [
      | then-branch+in_ok-push w ↦ rw (w.loaded-is, w.in_ok-push.ensures.items)
          (loaded-push folder c.args.side names i name c.loop-name.loaded.items c.loop-name-test.true at c.loop-name.invariant
          (subst (λ (ns : List (Bor (List ℕ))). AreModFolders folder (texts_at ns)) (sym c.as_slice-name-items.ensures.value) c.in_ok-folders.ensures)
          (rw w.if-branch.true at c.in_ok-says_loaded.ensures))
      | else-branch w ↦ rw w.loaded-is
          (loaded-skip folder c.args.side names i name c.loop-name.loaded.items c.loop-name-test.true at c.loop-name.invariant
          (rw w.if-branch.false at c.in_ok-says_loaded.ensures))
    ]

pub returns : goal.returns
returns c =
    all-loaded c.args.folder.now c.args.side c.as_slice-name-items.result.now c.loop-name.name-index c.loop-name.loaded.items
    (subst (λ (ns : List (Bor (List ℕ))). AreModFolders c.args.folder.now (texts_at ns)) (sym c.as_slice-name-items.ensures.value) c.in_ok-folders.ensures)
    c.loop-name-test.false c.loop-name.invariant
