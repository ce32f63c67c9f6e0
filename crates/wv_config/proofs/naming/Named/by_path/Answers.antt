use Rattle.std.proofs.Common.{List, Bor, subst, sym}
use Rattle.std.proofs.lemmas.Iterator.{items_from_collect}
use Rattle.std.proofs.lemmas.Iterator.Consumers.{YieldsList-at, YieldsList-from_rest, YieldsList-from_copied}
use Rattle.wv_config.specs.declared.naming.Entry.{Entry}
use Rattle.wv_config.specs.Entries.{AreChosen, entries_at}
use Rattle.wv_config.proofs.Choosing.{are-chosen}
use Rattle.wv_config.proofs.naming.Named.by_path.Goals as goal

pub returns : goal.returns
returns c = λ entries held.
    let all = rw c.in_ok-collect.was at (items_from_collect c.collect.result c.collect.ensures.ran (YieldsList-from_copied (YieldsList-at c.copied.ensures.source (YieldsList-from_rest _ c.values.ensures.rest)))) in
    subst (λ (references : List (Bor Entry)). AreChosen entries (entries_at references)) (sym all) (are-chosen entries c.args.self.now c.values.ensures.ordered held)
