use Rattle.std.proofs.Common.{[], arith}
use Rattle.wv_model.specs.Corresponds.{steps_for_one}
use Rattle.wv_model.specs.FrameRelation.{one_shared}
use Rattle.wv_model.specs.Toy.{hooked, lead, toy_relation, toy_rules, woven}
use Rattle.wv_model.proofs.Blocks.{toy_thread_laws, toy_starts}
use Rattle.wv_model.proofs.ThreadsLift.{threads_correspond}
use Rattle.wv_model.proofs.toy.woven_toy_threads_correspond.Goals as goal

pub returns : goal.returns
returns c =
    λ body said.
    threads_correspond steps_for_one toy_rules (λ i. woven body) (λ i. hooked body) toy_relation (toy_thread_laws body steps_for_one (omega arith)) (omega arith) said (λ i. i) (λ i. lead (body i)) (λ i. (woven body).enter i []) (λ i. (hooked body).enter i []) said said one_shared (λ i. toy_starts body said i)
