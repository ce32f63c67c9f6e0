use Rattle.wv_class.specs.Flags.{is_static}
use Rattle.wv_class.proofs.Widths.{narrow}
use Rattle.wv_class.proofs.formed_method.is_narrow.Goals as goal

pub returns-in-Some : goal.returns-in-Some
returns-in-Some c = narrow (is_static c.args.method.now.flags.0) c.args.method.now.descriptor c.in-Some.words c.most_words.result c.in-Some.ensures.found c.most_words.ensures
