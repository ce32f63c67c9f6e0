use Rattle.std.proofs.Common.{arith, sym, ◌∙◌}
use Rattle.wv_class.proofs.NoteTables.{first_is, first_last, first_stops}
use Rattle.wv_class.proofs.tables.first_table_len.Goals.{then-loop-last-test+else-follows, else-loop-last-test}
use Rattle.wv_class.proofs.tables.first_table_len.Goals as goal

pub returns-clause-first : goal.returns-clause-first
returns-clause-first c =
    let i = c.loop-last.invariant in
    elim c.loop-last-test.branch [
      | then-loop-last-test+else-follows w ↦
          first_is c.args.notes.now c.loop-last.last i.within i.counted (first_stops c.args.notes.now c.loop-last.last w.index-notes-last.result w.index-notes-last-in-loop-last.result w.loop-last-test.true w.index-notes-last.is
          w.index-notes-last-in-loop-last.is (sym w.follows.ensures ∙ w.if-follows.false))
      | else-loop-last-test w ↦ first_is c.args.notes.now c.loop-last.last i.within i.counted (first_last c.args.notes.now c.loop-last.last (omega (arith, i.within, w.loop-last-test)))
    ]
