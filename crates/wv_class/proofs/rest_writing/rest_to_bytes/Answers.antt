use Rattle.wv_class.proofs.AgainRest.{result_again}
use Rattle.wv_class.proofs.rest_writing.rest_to_bytes.Goals as goal

pub returns-clause-written : goal.returns-clause-written
returns-clause-written c =
    result_again c.args.pool.now c.args.class.now c.parts_to_bytes.result c.requires.formed c.requires.kept c.entries-entries.ensures.sound c.parts_to_bytes.ensures.written
