use Rattle.std.proofs.Common.{subst, sym}
use Rattle.wv_base.specs.Folder.{IsInOrder}
use Rattle.wv_classes.specs.ClassPath.{IsClassPath}
use Rattle.wv_classes.proofs.Reading.{read-none, step-skip, step-push, all-read}
use Rattle.wv_classes.proofs.folder_class.read_classes.Goals as goal
use Rattle.wv_classes.proofs.folder_class.read_classes.Goals.{in-Some+in_ok-copy+in_ok-from_str+in_ok-of+in_ok-push, in_default}

pub loop-path-init : goal.loop-path-init
loop-path-init c = rw c.new-classes.ensures.items (read-none c.args.folder.now c.args.side)

pub loop-path-preserved : goal.loop-path-preserved
loop-path-preserved c =
    let folder = c.args.folder.now in
    let side = c.args.side in
    let files = c.files-path-items.result.now in
    let file = c.loop-path-item.result in
    let order = subst IsInOrder (sym c.files-path-items.ensures.list) c.files-path-items.ensures.order in
    let says = c.class_name.ensures folder side c.in_ok-roots.ensures in
    elim c.match-class_name.branch [
      | in-Some+in_ok-copy+in_ok-from_str+in_ok-of+in_ok-push w ↦ rw (w.classes-is, w.in_ok-push.ensures.items)
          (step-push folder side files c.loop-path.path-index file c.loop-path.classes.items c.loop-path-test.true c.loop-path-item.is c.loop-path.invariant
          (record { path = w.in_ok-copy.field-0; name = w.in_ok-from_str.field-0; read = w.in_ok-of.field-0 })
          order
          (record {
            path = w.in_ok-copy.ensures;
            name = subst (IsClassPath folder side file.0) (sym w.in_ok-from_str.ensures) (rw (w.in-Some.is, c.as_str.ensures) at says);
            read = rw w.as_slice.ensures at w.in_ok-of.ensures;
          }))
      | in_default w ↦ rw w.classes-is
          (step-skip folder side files c.loop-path.path-index file c.loop-path.classes.items c.loop-path-test.true c.loop-path-item.is c.loop-path.invariant
          (rw (w.in_default.is, c.as_str.ensures) at says))
    ]

pub returns : goal.returns
returns c =
    all-read c.args.folder.now c.args.side c.files-path-items.result.now c.loop-path.path-index c.loop-path.classes.items
    c.files-path-items.ensures.list c.files-path-items.ensures.order c.loop-path-test.false c.loop-path.invariant
