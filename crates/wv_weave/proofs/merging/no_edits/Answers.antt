use Rattle.std.proofs.Common.{◌≡◌, ◌+◌, ◌++◌, ◌∷◌, [], None, ap, ◌∙◌, replicate, arith}
use Rattle.wv_weave.proofs.Edits.{replicate-more}
use Rattle.wv_weave.proofs.WeaveClauses.{all-placed}
use Rattle.wv_weave.proofs.merging.no_edits.Goals as goal

pub loop-init : goal.loop-init
loop-init c = c.new-edits.ensures.items

pub loop-preserved : goal.loop-preserved
loop-preserved c = c.in_ok-push.ensures.items ∙ ap (λ es. es ++ None ∷ []) c.loop.invariant ∙ replicate-more c.loop.counter None

pub returns : goal.returns
returns c = c.loop.invariant ∙ ap (λ n. replicate n None) (omega (arith, c.loop-test.false, c.loop.auto.counter-end))
