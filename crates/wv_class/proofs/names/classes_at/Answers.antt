use Rattle.std.proofs.Common.{[]}
use Rattle.wv_class.specs.Meaning.{AreClasses}
use Rattle.wv_class.proofs.names.classes_at.Goals as goal

pub returns : goal.returns
returns c =
    let start : AreClasses c.args.pool.now [] c.in_ok-names.names.items = rw c.in_ok-names.ensures.items tt in
    rw c.from_vec.ensures (c.in_ok-push_classes.ensures [] start)
