use Rattle.std.proofs.Common.{[]}
use Rattle.wv_config.specs.declared.loaded.LoadedConfig.{LoadedConfig}
use Rattle.wv_front.specs.Naming.{Grows, IsOfFront, AreConfigNamings}
use Rattle.wv_front.proofs.order.namings.Given as goal

-- the configurations so far name these
abbrev pub invariant-loop-config_place : goal.invariant-loop-config_place
invariant-loop-config_place l = Grows [] l.namings.items (IsOfFront (λ place (loaded : LoadedConfig). AreConfigNamings l.classes l.side place loaded.config) l.configs l.config_place)
