use Rattle.std.proofs.Common.{[]}
use Rattle.wv_config.specs.declared.loaded.LoadedConfig.{LoadedConfig}
use Rattle.wv_front.specs.Naming.{AreConfigNamings}
use Rattle.wv_front.proofs.Grown.{front-more, front-all}
use Rattle.wv_front.proofs.Namings.{all-named}
use Rattle.wv_front.proofs.order.namings.Goals as goal

pub loop-config_place-preserved : goal.loop-config_place-preserved
loop-config_place-preserved c =
    front-more (λ place (loaded : LoadedConfig). AreConfigNamings c.args.classes.now c.args.side place loaded.config) c.args.configs.now
    [] c.loop-config_place.namings.items c.add.new.namings.items c.loop-config_place.config_place c.index-configs-config_place.result c.loop-config_place-test.true c.index-configs-config_place.is c.loop-config_place.invariant c.in_ok-add.ensures

pub returns : goal.returns
returns c =
    all-named c.args.configs.now c.args.classes.now c.args.side c.loop-config_place.namings.items
    (front-all (λ place (loaded : LoadedConfig). AreConfigNamings c.args.classes.now c.args.side place loaded.config) c.args.configs.now
    [] c.loop-config_place.namings.items c.loop-config_place.config_place c.loop-config_place-test.false c.loop-config_place.invariant)
