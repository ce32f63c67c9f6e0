use Rattle.std.proofs.Common.{◌≡◌, sym, subst, ◌∙◌, arith}
use Rattle.wv_pool.specs.Index.{number_in}
use Rattle.wv_pool.specs.Building.{IsBuilt}
use Rattle.wv_pool.proofs.Entering.{built_first, built_level, built_last}
use Rattle.wv_pool.proofs.building.index_of.Goals as goal

pub loop-level-init : goal.loop-level-init
loop-level-init c = record { built = built_first c.args.pool.now c.in_ok-firsts.firsts.items (number_in c.new-index.result) (sym c.in_ok-firsts.firsts.ok.0 ∙ c.in_ok-firsts.ensures.len) c.new-index.ensures }

pub loop-level-preserved : goal.loop-level-preserved
loop-level-preserved c = record { built = built_level c.args.pool.now c.loop-level.level c.enter_level.new.firsts.items (number_in c.enter_level.new.index) (omega (arith, c.loop-level-test.true)) c.in_ok-enter_level.ensures }

pub returns : goal.returns
returns c =
    let level : c.loop-level.level ≡ 4 = omega (arith, c.loop-level-test.false, c.loop-level.auto.level-end) in
    built_last c.args.pool.now c.loop-level.firsts.items (number_in c.loop-level.index) (subst (λ n. IsBuilt c.args.pool.now n 0 c.loop-level.firsts.items (number_in c.loop-level.index)) level c.loop-level.invariant.built)
