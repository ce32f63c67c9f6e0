use Rattle.std.proofs.Common.{Err, ap, ◌∙◌}
use Rattle.wv_mod.proofs.Games.{wrong-json}
use Rattle.wv_mod.proofs.game_info.read_bytes.Goals as goal

pub returns-in-Err-Wrong-clause-stop : goal.returns-in-Err-Wrong-clause-stop
returns-in-Err-Wrong-clause-stop c = wrong-json c.args.bytes.now (c.read_object.ensures.wrong (c.in-Err-Wrong.is ∙ ap Err c.in-Err-Wrong.field-0-is))
