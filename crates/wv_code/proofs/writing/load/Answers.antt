use Rattle.wv_code.specs.Formed.{loaded_words}
use Rattle.wv_code.proofs.Forms.{load_form}
use Rattle.wv_code.proofs.writing.load.Goals as goal

pub returns-clause-encodable : goal.returns-clause-encodable
returns-clause-encodable c = rw c.load_opcode.ensures (load_form c.args.op c.args.number (loaded_words c.args.value.now) c.requires)
