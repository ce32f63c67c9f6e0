use Rattle.wv_class.proofs.Parts.{marks_found, marks_none}
use Rattle.wv_class.proofs.content_break.marks_break.Goals as goal

pub returns-in-Some : goal.returns-in-Some
returns-in-Some c = marks_found c.args.pool.now c.args.parts.now c.args.base c.in-Some.at c.in-Some.ensures.found

pub returns-in-None : goal.returns-in-None
returns-in-None c = marks_none c.args.pool.now c.args.parts.now c.args.base c.in-None.ensures.none
