use Rattle.std.proofs.Common.{rules}
use Rattle.wv_front.proofs.Keys.{sorted-by_key}
use Rattle.wv_front.proofs.order.sort.Goals as goal

pub returns : goal.returns
returns c = sorted-by_key _ _ c.args.namings.now.items c.sort_by.new.self.items c.sort_by.result c.sort_by.ensures.permutation c.sort_by.ensures.sorted (λ a r f' k. search rules)
