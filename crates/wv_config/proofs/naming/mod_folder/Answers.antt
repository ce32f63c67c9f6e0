use Rattle.std.proofs.Common.{sym}
use Rattle.wv_config.proofs.ModFolder.{stripped}
use Rattle.wv_config.proofs.naming.mod_folder.Goals as goal

pub returns-in-Some : goal.returns-in-Some
returns-in-Some c = sym (rw c.in-Some.is at (stripped c.args.path.now c.strip_suffix.result c.strip_suffix.ensures.cases))

pub returns-in-None : goal.returns-in-None
returns-in-None c = sym (rw c.in-None.is at (stripped c.args.path.now c.strip_suffix.result c.strip_suffix.ensures.cases))
