use Rattle.std.proofs.Common.{[], arith}
use Rattle.wv_model.specs.Corresponds.{steps_for_one}
use Rattle.wv_model.specs.FrameRelation.{one_shared}
use Rattle.wv_model.specs.Toy.{hooked, lead, toy_relation, toy_rules, woven}
use Rattle.wv_model.proofs.Blocks.{toy_laws, toy_starts}
use Rattle.wv_model.proofs.Lift.{starts_correspond}
use Rattle.wv_model.proofs.toy.woven_toy_corresponds.Goals as goal

pub returns : goal.returns
returns c =
    λ body said method.
    starts_correspond steps_for_one toy_rules (woven body) (hooked body) toy_relation (toy_laws body steps_for_one (omega arith)) (omega arith) said method (lead (body method)) ((woven body).enter method []) ((hooked body).enter method []) said said one_shared (toy_starts body said method)
