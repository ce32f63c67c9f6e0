use Rattle.wv_version.proofs.Edges.{empty_is_least, none_is_greatest}
use Rattle.wv_version.proofs.laws.pre_releases.Goals as goal

pub returns-clause-empty_is_least : goal.returns-clause-empty_is_least
returns-clause-empty_is_least c = empty_is_least

pub returns-clause-none_is_greatest : goal.returns-clause-none_is_greatest
returns-clause-none_is_greatest c = none_is_greatest
