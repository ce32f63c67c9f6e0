use Rattle.wv_tree.proofs.Ascending.{IsAscending-dedup}
use Rattle.wv_tree.proofs.disk.in_order.Goals as goal

pub returns : goal.returns
returns c = IsAscending-dedup c.sort_unstable.new.self c.dedup.new.self c.sort_unstable.ensures.sorted c.dedup.ensures.filtered
