use Rattle.wv_code.proofs.BodyWritten.{body_allowed}
use Rattle.wv_code.proofs.body_constants.push_body_constants.Goals as goal

pub returns-in_err-push_insns-clause-allowed : goal.returns-in_err-push_insns-clause-allowed
returns-in_err-push_insns-clause-allowed c = body_allowed c.requires.0 c.args.body.now c.requires.1

pub returns-clause-allowed : goal.returns-clause-allowed
returns-clause-allowed c = body_allowed c.requires.0 c.args.body.now c.requires.1
