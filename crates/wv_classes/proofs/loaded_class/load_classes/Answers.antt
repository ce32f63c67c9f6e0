use Rattle.std.proofs.Common.{Vec, Global}
use Rattle.wv_classes.specs.declared.loaded_class.LoadedClass.{LoadedClass}
use Rattle.wv_classes.proofs.Loading.{answer-loaded, answer-refused}
use Rattle.wv_classes.proofs.loaded_class.load_classes.Goals as goal

pub returns-clause-loaded : goal.returns-clause-loaded
returns-clause-loaded c =
    answer-loaded (λ (v : Vec LoadedClass Global). v.items) c.args.folder.now c.args.side c.in_ok-read_classes.field-0.items c.in_ok-read_classes.ensures c.check_classes.result c.check_classes.ensures.loaded

pub returns-clause-fault : goal.returns-clause-fault
returns-clause-fault c =
    answer-refused (λ (v : Vec LoadedClass Global). v.items) c.args.folder.now c.args.side c.in_ok-read_classes.field-0.items c.in_ok-read_classes.ensures c.check_classes.result c.check_classes.ensures.fault
