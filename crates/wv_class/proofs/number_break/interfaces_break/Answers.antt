use Rattle.std.proofs.Common.{◌+◌, ◌*◌, get_or}
use Rattle.wv_class.specs.Breaks.{NamesPlainClass}
use Rattle.wv_code.specs.Least.{Broken}
use Rattle.wv_code.proofs.LeastPlaces.{asked, items_more, items_all}
use Rattle.wv_class.proofs.Places.{numbers_least}
use Rattle.wv_class.proofs.number_break.interfaces_break.Goals as goal

pub loop-index-preserved : goal.loop-index-preserved
loop-index-preserved c =
    items_more (λ k number. Broken (NamesPlainClass c.args.pool.now number) (c.args.base + 2 * k)) c.args.numbers.now c.loop-index.index 0 c.loop-index-test.true c.lesser-found.ensures c.loop-index.invariant
    (asked (NamesPlainClass c.args.pool.now (get_or c.args.numbers.now c.loop-index.index 0)) c.unless-one.ensures c.names_plain_class.ensures)

pub returns : goal.returns
returns c =
    numbers_least c.args.base c.args.numbers.now (NamesPlainClass c.args.pool.now)
    (items_all (λ k number. Broken (NamesPlainClass c.args.pool.now number) (c.args.base + 2 * k)) c.args.numbers.now c.loop-index.index c.loop-index-test.false c.loop-index.invariant)
