use Rattle.std.proofs.Common.{List, ℕ, subst, sym}
use Rattle.wv_base.specs.Folder.{IsInOrder}
use Rattle.wv_resolve.specs.Discovery.{LiesIn}
use Rattle.wv_resolve.specs.Finding.{texts_at}
use Rattle.wv_resolve.proofs.Folders.{step-skip, step-add}
use Rattle.wv_resolve.proofs.discovery.mod_folders.Goals as goal
use Rattle.wv_resolve.proofs.discovery.mod_folders.Goals.{in-Some+in_ok-add_name, in_default}

pub loop-path-preserved : goal.loop-path-preserved
loop-path-preserved c =
    let files = c.files-path-items.result.now in
    let order = subst IsInOrder (sym c.files-path-items.ensures.list) c.files-path-items.ensures.order in
    elim c.match-mod_folder.branch [
      | in-Some+in_ok-add_name w ↦ rw w.names-is
          (step-add files c.loop-path.path-index c.loop-path-item.result c.loop-path-test.true c.loop-path-item.is c.loop-path.names.items c.loop-path.invariant w.in-Some.name (texts_at w.add_name.new.names.items) order
          (subst (λ (path : List ℕ). LiesIn w.in-Some.name.now path) c.as_str.ensures w.in-Some.ensures)
          w.in_ok-add_name.ensures)
      | in_default w ↦ rw w.names-is
          (step-skip files c.loop-path.path-index c.loop-path-item.result c.loop-path-test.true c.loop-path-item.is c.loop-path.names.items c.loop-path.invariant
          (λ name lies. (rw w.in_default.is at c.mod_folder.ensures) name (subst (λ (path : List ℕ). LiesIn name path) (sym c.as_str.ensures) lies)))
    ]
