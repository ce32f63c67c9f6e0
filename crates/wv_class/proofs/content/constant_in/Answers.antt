use Rattle.wv_class.proofs.Exits.{fails}
use Rattle.wv_class.proofs.PlainContents.{constant_stops, constant_takes}
use Rattle.wv_class.proofs.content.constant_in.Goals as goal

pub returns-in_err-number : goal.returns-in_err-number
returns-in_err-number c = λ pool. fails c.args.bytes.now c.args.bytes.now (constant_stops pool c.args.bytes.now) c.from_residual.result c.in_err-number.field-0.0 c.from_residual.ensures.1 c.in_err-number.ensures
