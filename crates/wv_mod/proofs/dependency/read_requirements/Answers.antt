use Rattle.wv_mod.specs.Dependency.{IsRequirement}
use Rattle.wv_mod.proofs.Relating.{relates-push}
use Rattle.wv_mod.proofs.Stopping.{stop-at}
use Rattle.wv_mod.proofs.dependency.read_requirements.Goals as goal

pub returns-in_default-clause-stop : goal.returns-in_default-clause-stop
returns-in_default-clause-stop c = stop-at c.args.texts.now c.loop-text.text-index c.loop-text.requirements c.text-item.result c.in_ok-copy.field-0 c.loop-text-test.true c.text-item.is c.loop-text.invariant c.in_ok-copy.ensures (rw c.in_default.is at c.in_ok-predicate.ensures.none)

pub loop-text-preserved : goal.loop-text-preserved
loop-text-preserved c =
    rw c.in_ok-push.ensures.ok
    (relates-push IsRequirement c.args.texts.now c.loop-text.text-index c.loop-text.requirements c.text-item.result (record { text = c.in_ok-copy-2.field-0; predicate = c.in-Some.predicate }) c.loop-text-test.true c.text-item.is c.loop-text.invariant (c.in_ok-copy-2.ensures, rw c.in-Some.is at c.in_ok-predicate.ensures.found))
