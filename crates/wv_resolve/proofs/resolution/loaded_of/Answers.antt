use Rattle.std.proofs.Common.{rules}
use Rattle.std.proofs.lemmas.List.Elements.{filter_from_retain}
use Rattle.wv_resolve.specs.Resolution.{is_loaded}
use Rattle.wv_resolve.proofs.resolution.loaded_of.Goals as goal

pub returns : goal.returns
returns c = filter_from_retain _ is_loaded (λ p x b q k. search rules) _ c.args.mods.items c.retain.new.self.items c.retain.ensures.filtered
