use Rattle.wv_version.proofs.Edges.{at_least, below_next, begins_between}
use Rattle.wv_version.proofs.laws.bounds.Goals as goal

pub returns-clause-wildcard : goal.returns-clause-wildcard
returns-clause-wildcard c v front last =
    ((λ begins. (at_least v front last begins, below_next v front last begins)), λ h. begins_between v front last h.0 h.1)
