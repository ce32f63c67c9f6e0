use Rattle.wv_code.proofs.Shapes.{counted}
use Rattle.wv_code.proofs.formed.is_counted.Goals as goal

pub returns-in-Some : goal.returns-in-Some
returns-in-Some c = counted c.args.descriptor.now c.in-Some.words c.in-Some.ensures.found
