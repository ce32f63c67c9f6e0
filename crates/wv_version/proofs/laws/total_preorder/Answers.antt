use Rattle.wv_version.proofs.Ordering.{at_most_step, at_most_total, lower_apart, lower_from_not, same_from_both, same_back}
use Rattle.std.proofs.Common.{inr}
use Rattle.wv_version.proofs.laws.total_preorder.Goals as goal

pub returns-clause-transitive : goal.returns-clause-transitive
returns-clause-transitive c = at_most_step

pub returns-clause-total : goal.returns-clause-total
returns-clause-total c = at_most_total

pub returns-clause-ties : goal.returns-clause-ties
returns-clause-ties c v w = ((λ same. (inr same, inr (same_back v w same))), λ h. same_from_both v w h.0 h.1)

pub returns-clause-strict : goal.returns-clause-strict
returns-clause-strict c v w = (lower_apart v w, lower_from_not v w)
