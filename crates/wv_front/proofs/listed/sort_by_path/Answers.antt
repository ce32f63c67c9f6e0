use Rattle.std.proofs.Common.{rules}
use Rattle.std.specs.Borrow.{Bor}
use Rattle.wv_config.specs.declared.loaded.LoadedConfig.{LoadedConfig}
use Rattle.wv_resolve.proofs.Sorting.{ordered-by}
use Rattle.wv_front.specs.Listed.{path_of}
use Rattle.wv_front.proofs.Missing.{ordered-all}
use Rattle.wv_front.proofs.listed.sort_by_path.Goals as goal

pub returns : goal.returns
returns c = ordered-all path_of c.args.configs.now.items c.sort_by.new.self.items c.sort_by.result
    (ordered-by _ _ (λ (r : Bor LoadedConfig). path_of r.now) c.args.configs.now.items c.sort_by.new.self.items c.sort_by.result c.sort_by.ensures.permutation c.sort_by.ensures.sorted c.sort_by.ensures.stable (λ a r f' k. search rules))
