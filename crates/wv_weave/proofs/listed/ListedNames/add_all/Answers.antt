use Rattle.wv_weave.proofs.ListedGrowth.{config-more, config-all}
use Rattle.wv_weave.proofs.ListedSets.{grows-none}
use Rattle.wv_weave.proofs.listed.ListedNames.add_all.Goals as goal

pub loop-config-init : goal.loop-config-init
loop-config-init c = grows-none c.args.self.now

pub loop-config-preserved : goal.loop-config-preserved
loop-config-preserved c =
    config-more c.args.configs.now c.loop-config.config-index c.args.self.now c.loop-config.self c.add_listed.new.self c.config-item.result c.loop-config-test.true c.config-item.is c.in_ok-add_listed.ensures
    c.loop-config.invariant

pub returns : goal.returns
returns c = config-all c.args.configs.now c.loop-config.config-index c.args.self.now c.loop-config.self c.loop-config-test.false c.loop-config.invariant
