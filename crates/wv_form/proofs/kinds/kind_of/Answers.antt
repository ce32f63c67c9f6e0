use Rattle.std.proofs.Common.{sym}
use Rattle.wv_form.proofs.KnownList.{kind-is}
use Rattle.wv_form.proofs.kinds.kind_of.Goals as goal

pub returns-in-Some : goal.returns-in-Some
returns-in-Some c =
    kind-is c.args.folder.now c.args.file.now c.in-Some.bytes.now c.in-Class.class c.class_kind.result
    (sym (rw c.as_str.ensures at c.in-Some.ensures.content))
    c.in-Class.is
    (rw c.as_slice.ensures at c.class_kind.ensures)
