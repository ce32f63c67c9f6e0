use Rattle.wv_weave.proofs.ListedGrowth.{entry-more, entry-all}
use Rattle.wv_weave.proofs.ListedSets.{grows-none}
use Rattle.wv_weave.proofs.listed.ListedNames.add.Goals as goal

pub loop-entry-init : goal.loop-entry-init
loop-entry-init c = grows-none c.args.self.now

pub loop-entry-preserved : goal.loop-entry-preserved
loop-entry-preserved c =
    entry-more c.args.config.now.«package» c.args.entries.now c.loop-entry.entry-index c.args.self.now c.loop-entry.self (record { names = c.insert.new.self }) c.entry-item.result c.in_ok-class_of.field-0 c.loop-entry-test.true c.entry-item.is c.in_ok-class_of.ensures
    (λ text. c.in_ok-insert.ensures.updates.0 text)
    c.loop-entry.invariant

pub returns : goal.returns
returns c = entry-all c.args.config.now.«package» c.args.entries.now c.loop-entry.entry-index c.args.self.now c.loop-entry.self c.loop-entry-test.false c.loop-entry.invariant
