use Rattle.std.proofs.Common.{rules}
use Rattle.wv_resolve.proofs.Sorting.{ordered-by}
use Rattle.wv_weave.specs.Outgoing.{path_of}
use Rattle.wv_weave.proofs.outgoing.sort.Goals as goal

pub returns : goal.returns
returns c = ordered-by _ _ path_of c.args.outgoing.now.items c.sort_by.new.self.items c.sort_by.result c.sort_by.ensures.permutation c.sort_by.ensures.sorted c.sort_by.ensures.stable (λ a r f' k. search rules)
