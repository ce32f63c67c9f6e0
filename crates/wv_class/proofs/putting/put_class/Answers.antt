use Rattle.std.proofs.lemmas.Result.{on_ok_weaker}
use Rattle.wv_base.specs.declared.constant.Const.TheVariants as constants
use Rattle.wv_class.specs.Appending.{WritesClassName, WritesConstant}
use Rattle.wv_class.proofs.Appended.{written_as, class_written}
use Rattle.wv_class.proofs.putting.put_class.Goals as goal

pub returns : goal.returns
returns c =
    let pool = c.args.pool.now in
    let name = c.args.name.now in
    let old = c.args.out.now in
    let new = c.put_constant.new.out in
    on_ok_weaker c.put_constant.result
    (written_as (WritesConstant pool (constants.Class name)) (WritesClassName pool name) old new (class_written pool name)) (rw c.in_ok-copy.ensures at c.put_constant.ensures)
