use Rattle.std.proofs.Common.{refl}
use Rattle.wv_class.proofs.number.exactly_at.Goals as goal

pub returns : goal.returns
returns c = c.number_at.ensures c.args.number c.requires.fits refl
