use Rattle.std.proofs.Common.{[], codes}
use Rattle.serde_json.specs.Find.{get}
use Rattle.serde_json.specs.View.{view}
use Rattle.wv_mod.specs.Mixins.{IsMixinList}
use Rattle.wv_mod.proofs.Fields.{optional-read}
use Rattle.wv_mod.proofs.mixin.mixins_at.Goals as goal

pub returns-in-Some : goal.returns-in-Some
returns-in-Some c = optional-read IsMixinList [] (get (codes "mixins") (view c.args.value.now)) (view c.in-Some.found.now) c.read_mixins.result c.in-Some.ensures c.read_mixins.ensures
