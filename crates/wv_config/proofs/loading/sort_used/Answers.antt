use Rattle.std.proofs.Common.{rules}
use Rattle.wv_config.proofs.Outcome.{sorted-used}
use Rattle.wv_config.proofs.loading.sort_used.Goals as goal

pub returns-clause-ordered : goal.returns-clause-ordered
returns-clause-ordered c = sorted-used _ _ c.sort_by.new.self.items c.sort_by.result c.sort_by.ensures.sorted (λ a o f' k. search rules)
