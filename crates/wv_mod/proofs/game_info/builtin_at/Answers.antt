use Rattle.std.proofs.Common.{[], codes}
use Rattle.serde_json.specs.Find.{get}
use Rattle.serde_json.specs.View.{view}
use Rattle.wv_json.specs.Kind.{IsText, IsObjectOf}
use Rattle.wv_mod.proofs.Fields.{optional-read}
use Rattle.wv_mod.proofs.game_info.builtin_at.Goals as goal

pub returns-in-Some : goal.returns-in-Some
returns-in-Some c = optional-read (IsObjectOf IsText) [] (get (codes "builtin") (view c.args.value.now)) (view c.in-Some.found.now) c.read_text_members.result c.in-Some.ensures c.read_text_members.ensures
