use Rattle.wv_resolve.specs.Finding.{texts_at}
use Rattle.wv_classes.proofs.Sets.{roots-of}
use Rattle.wv_classes.proofs.roots.Roots.find.Goals as goal

pub returns : goal.returns
returns c =
    roots-of c.args.folder.now c.args.side (texts_at c.in_ok-names.names.items) c.in_ok-set_of.field-0 c.in_ok-names.ensures
    (rw c.as_slice.ensures.value at c.in_ok-set_of.ensures)
