use Rattle.wv_front.proofs.Missing.{configs-more, configs-missing}
use Rattle.wv_front.proofs.listed.check_each.Goals as goal

pub returns-in-Some-clause-missing : goal.returns-in-Some-clause-missing
returns-in-Some-clause-missing c = λ names h.
    configs-missing names c.args.configs.now c.loop-config.config-index c.config-item.result c.in-Some.name c.in_ok-missing.field-0 c.loop-config-test.true c.config-item.is (c.loop-config.invariant names h)
    (rw c.in-Some.is at (c.in_ok-name.ensures names h))
    c.in_ok-missing.ensures

pub loop-config-preserved : goal.loop-config-preserved
loop-config-preserved c = λ names h.
    configs-more names c.args.configs.now c.loop-config.config-index c.config-item.result c.loop-config-test.true c.config-item.is (c.loop-config.invariant names h)
    (rw c.in_default.is at (c.in_ok-name.ensures names h))
