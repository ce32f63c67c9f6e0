use Rattle.std.proofs.Common.{codes}
use Rattle.serde_json.specs.Find.{get}
use Rattle.serde_json.specs.View.{view}
use Rattle.wv_mod.proofs.Fields.{jars-list, jars-other}
use Rattle.wv_mod.proofs.field.has_no_jars.Goals as goal

pub returns-in-Is : goal.returns-in-Is
returns-in-Is c = jars-list (get (codes "jars") (view c.args.value.now)) c.in-Is.list c.is_empty.result (rw c.in-Is.is at c.field_list.ensures) c.is_empty.ensures

pub returns-in-Other : goal.returns-in-Other
returns-in-Other c = jars-other (get (codes "jars") (view c.args.value.now)) c.args.value.ref_ptr (rw c.in-Other.is at c.field_list.ensures)
