use Rattle.std.proofs.Common.{List, ℕ, Some, subst}
use Rattle.std.specs.BTreeMap.{Updates}
use Rattle.std.specs.Cmp.Lexicographic.{slice_cmp}
use Rattle.std.specs.Ordering.{nat_cmp}
use Rattle.wv_config.proofs.Choosing.{holds-put, holds-kept}
use Rattle.wv_config.proofs.naming.Named.add.Goals as goal

pub returns-in_ok-insert : goal.returns-in_ok-insert
returns-in_ok-insert c = λ done held behind.
    holds-put done c.args.self.now held (record { entries = c.insert.new.self }) c.args.entry c.if-takes.ensures
    (subst (λ (path : List ℕ). Updates (slice_cmp nat_cmp) c.args.self.now.entries c.insert.new.self path (Some c.args.entry)) c.in_ok-copy.ensures c.in_ok-insert.ensures.updates)

pub returns-else-takes : goal.returns-else-takes
returns-else-takes c = λ done held behind. holds-kept done c.args.self.now held c.args.entry.now behind c.if-takes.ensures
