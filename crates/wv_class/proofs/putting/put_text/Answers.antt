use Rattle.std.proofs.lemmas.Result.{on_ok_weaker}
use Rattle.wv_base.specs.declared.constant.Const.TheVariants as constants
use Rattle.wv_class.specs.Appending.{WritesText, WritesConstant}
use Rattle.wv_class.proofs.Appended.{written_as, text_written}
use Rattle.wv_class.proofs.putting.put_text.Goals as goal

pub returns : goal.returns
returns c =
    let pool = c.args.pool.now in
    let text = c.args.text in
    let old = c.args.out.now in
    let new = c.put_constant.new.out in
    on_ok_weaker c.put_constant.result
    (written_as (WritesConstant pool (constants.Utf8 text)) (WritesText pool text) old new (text_written pool text)) c.put_constant.ensures
