use Rattle.wv_class.specs.Appending.{WritesClassName}
use Rattle.wv_class.proofs.Appended.{next_appended, class_named}
use Rattle.wv_class.proofs.putting.put_each_class.Goals as goal

pub put_class-requires : goal.put_class-requires
put_class-requires c = class_named c.args.pool.now c.args.names.now c.loop-name.name-index c.name-item.result c.loop-name-test.true c.name-item.is c.requires

pub loop-name-preserved : goal.loop-name-preserved
loop-name-preserved c =
    next_appended (WritesClassName c.args.pool.now) c.args.names.now c.loop-name.name-index c.name-item.result c.args.out.now c.loop-name.out c.put_class.new.out c.loop-name-test.true c.name-item.is c.loop-name.invariant c.in_ok-put_class.ensures
