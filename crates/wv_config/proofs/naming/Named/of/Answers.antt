use Rattle.std.proofs.Common.{List, take, subst, sym}
use Rattle.wv_resolve.proofs.Lists.{front-more, all-before}
use Rattle.wv_config.specs.declared.naming.Entry.{Entry}
use Rattle.wv_config.specs.Entries.{IsBefore, Holds}
use Rattle.wv_config.proofs.naming.Named.of.Goals as goal

pub loop-entry-preserved : goal.loop-entry-preserved
loop-entry-preserved c =
    let entries = c.args.entries.now in
    let i = c.loop-entry.entry-index in
    let next = c.entry-item.result in
    subst (λ (list : List Entry). Holds list c.add.new.self) (sym (front-more entries i next c.loop-entry-test.true c.entry-item.is))
    (c.in_ok-add.ensures (take i entries) c.loop-entry.invariant (all-before IsBefore entries i next c.requires c.loop-entry-test.true c.entry-item.is))
