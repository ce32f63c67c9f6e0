use Rattle.std.proofs.Common.{[]}
use Rattle.serde_json.specs.Find.{get}
use Rattle.serde_json.specs.View.{view}
use Rattle.wv_json.specs.Kind.{IsTextOrTexts, IsObjectOf}
use Rattle.wv_mod.proofs.Fields.{optional-read}
use Rattle.wv_mod.proofs.field.entries_at.Goals as goal

pub returns-in-Some : goal.returns-in-Some
returns-in-Some c = optional-read (IsObjectOf IsTextOrTexts) [] (get c.args.key.now (view c.args.value.now)) (view c.in-Some.found.now) c.read_texts_members.result c.in-Some.ensures c.read_texts_members.ensures
