use Rattle.wv_weave.proofs.ListedGrowth.{has-mixins}
use Rattle.wv_weave.proofs.listed.ListedNames.has.Goals as goal

pub returns : goal.returns
returns c = λ configs names. has-mixins configs c.args.self.now c.args.name.now c.contains.result c.contains.ensures names
