use Rattle.std.proofs.Common.{sym, subst, ◌∙◌, arith}
use Rattle.wv_pool.specs.Index.{number_in}
use Rattle.wv_pool.specs.Building.{IsBuilt}
use Rattle.wv_pool.proofs.Entering.{entry_next, built_other, built_more}
use Rattle.wv_pool.proofs.building.enter_level.Goals as goal

pub loop-entry-preserved-then-level_of-level : goal.loop-entry-preserved-then-level_of-level
loop-entry-preserved-then-level_of-level c =
    let here = entry_next c.args.pool.now c.loop-entry.number c.loop-entry.entry-index c.entry-item.result c.loop-entry.invariant.number c.loop-entry-test.true c.entry-item.is in
    record {
      number = omega (arith, c.loop-entry.invariant.number);
      built = built_other c.args.pool.now c.args.level c.loop-entry.number c.entry-item.result here c.loop-entry.firsts.items (number_in c.loop-entry.index) (λ same. c.if-level_of-level.true (c.level_of.ensures ∙ same)) c.loop-entry.invariant.built;
    }

pub loop-entry-preserved : goal.loop-entry-preserved
loop-entry-preserved c =
    let here = entry_next c.args.pool.now c.loop-entry.number c.loop-entry.entry-index c.entry-item.result c.loop-entry.invariant.number c.loop-entry-test.true c.entry-item.is in
    let key = rw c.deref.ensures.value at (sym c.in_ok-key.ensures ∙ c.in-Some.is) in
    record {
      number = omega (arith, c.loop-entry.invariant.number);
      built = built_more c.args.pool.now c.args.level c.loop-entry.number c.entry-item.result here c.loop-entry.firsts.items (number_in c.loop-entry.index) c.requires.low c.requires.sound (sym c.level_of.ensures ∙ c.if-level_of-level.false) c.loop-entry.invariant.built
          c.in-Some.key c.in_ok-firsts.field-0 (number_in c.number_or_insert.new.self) key c.in_ok-firsts.ensures;
    }

pub returns : goal.returns
returns c = subst (λ n. IsBuilt c.args.pool.now c.args.level n c.loop-entry.firsts.items (number_in c.loop-entry.index)) (omega (arith, c.loop-entry.invariant.number, c.loop-entry-test.false, c.loop-entry.auto.entry-index-end)) c.loop-entry.invariant.built
