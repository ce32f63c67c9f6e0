use Rattle.wv_class.proofs.KindLengths.{some_length}
use Rattle.wv_class.proofs.attribute_length.length_at.Goals as goal

pub returns : goal.returns
returns c = let s = some_length c.args.kind in c.number_at.ensures s.0 s.1 s.2
