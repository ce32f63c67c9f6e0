use Rattle.wv_attr.proofs.Flattened.{annotation_within}
use Rattle.wv_attr.proofs.depth.is_shallow.Goals as goal

pub returns : goal.returns
returns c =
    let is = rw c.as_slice.ensures at c.pairs_are_within.ensures in
    annotation_within c.args.annotation.now 255 c.pairs_are_within.result is
