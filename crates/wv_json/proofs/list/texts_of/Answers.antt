use Rattle.std.proofs.Common.{sym}
use Rattle.wv_json.proofs.Lists.{no_texts}
use Rattle.wv_json.proofs.list.texts_of.Goals as goal

pub returns-in_default : goal.returns-in_default
returns-in_default c = no_texts c.args.list.now c.loop-item.item-index c.item-item.result c.loop-item-test.true c.item-item.is (sym c.in_default.ensures)
