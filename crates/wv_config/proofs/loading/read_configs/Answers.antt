use Rattle.std.proofs.Common.{rules, List, subst, sym}
use Rattle.std.proofs.lemmas.Iterator.Adapters.{YieldsList-from_vec}
use Rattle.std.proofs.lemmas.Iterator.Consumers.{YieldsList-so_far, YieldsList-turn, YieldsList-end}
use Rattle.wv_resolve.proofs.Flaws.{match-both}
use Rattle.wv_config.specs.declared.naming.Entry.{Entry}
use Rattle.wv_config.specs.Entries.{entries_at}
use Rattle.wv_config.specs.Fault.{IsFaultOf}
use Rattle.wv_config.specs.Finding.{IsLoadedOf, IsFlawAt, IsReadingOf}
use Rattle.wv_config.proofs.Outcome.{all-read, all-flawed}
use Rattle.wv_config.proofs.Reading.{yielded-more, yielded-before, yielded-all}
use Rattle.wv_config.proofs.loading.read_configs.Goals as goal

pub loop-entry-preserved : goal.loop-entry-preserved
loop-entry-preserved c =
    let road = YieldsList-from_vec {s = c.into_iter-entry-iterator.result} c.in_ok-chosen.chosen.items (search rules) (search rules) in
    let yielded = c.loop-entry.yielded in
    let next = c.in-Some.entry in
    let files = c.args.folder.now in
    let turn = YieldsList-turn road yielded c.loop-entry.entry-iterator c.loop-entry.yielded_by c.next.result c.next.new.self next c.in-Some.is c.next.ensures.steps in
    subst (λ (list : List Entry). IsReadingOf files list c.add.new.self) (sym (yielded-more yielded next))
    (c.in_ok-add.ensures files (entries_at yielded) c.loop-entry.invariant
    (yielded-before c.in_ok-chosen.chosen.items yielded next (YieldsList-so_far road yielded c.loop-entry.entry-iterator c.loop-entry.yielded_by) turn.0 turn.1 c.args.entries.now c.in_ok-chosen.ensures)
    (match-both c.load_config.result (IsLoadedOf files next.now) (IsFaultOf (IsFlawAt files next.now)) c.load_config.ensures.loaded c.load_config.ensures.flaw))

pub returns-clause-read : goal.returns-clause-read
returns-clause-read c =
    let road = YieldsList-from_vec {s = c.into_iter-entry-iterator.result} c.in_ok-chosen.chosen.items (search rules) (search rules) in
    let end = YieldsList-end road c.loop-entry.yielded c.loop-entry.entry-iterator c.loop-entry.yielded_by c.next.result c.next.new.self c.in-None.is c.next.ensures.steps in
    let done = subst (λ (list : List Entry). IsReadingOf c.args.folder.now list c.loop-entry.reading) (yielded-all c.in_ok-chosen.chosen.items c.loop-entry.yielded end.0) c.loop-entry.invariant in
    all-read c.args.folder.now c.args.entries.now (entries_at c.in_ok-chosen.chosen.items) c.in_ok-chosen.ensures c.finish.result (c.finish.ensures.read c.args.folder.now (entries_at c.in_ok-chosen.chosen.items) done)

pub returns-clause-fault : goal.returns-clause-fault
returns-clause-fault c =
    let road = YieldsList-from_vec {s = c.into_iter-entry-iterator.result} c.in_ok-chosen.chosen.items (search rules) (search rules) in
    let end = YieldsList-end road c.loop-entry.yielded c.loop-entry.entry-iterator c.loop-entry.yielded_by c.next.result c.next.new.self c.in-None.is c.next.ensures.steps in
    let done = subst (λ (list : List Entry). IsReadingOf c.args.folder.now list c.loop-entry.reading) (yielded-all c.in_ok-chosen.chosen.items c.loop-entry.yielded end.0) c.loop-entry.invariant in
    all-flawed c.args.folder.now c.args.entries.now (entries_at c.in_ok-chosen.chosen.items) c.in_ok-chosen.ensures c.finish.result (c.finish.ensures.fault c.args.folder.now (entries_at c.in_ok-chosen.chosen.items) done)
