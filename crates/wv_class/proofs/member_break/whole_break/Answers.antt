use Rattle.wv_code.proofs.LeastPlaces.{asked}
use Rattle.wv_class.specs.Breaks.{IsInitializer, HasItsCode, IsNarrow}
use Rattle.wv_class.proofs.Members.{whole_least}
use Rattle.wv_class.proofs.member_break.whole_break.Goals as goal

pub returns : goal.returns
returns c =
    let pool = c.args.pool.now in
    let m = c.args.method.now in
    λ before there. whole_least pool 0 before m c.args.base c.args.again there c.lesser-3.ensures c.lesser.ensures c.lesser-2.ensures c.unless-again.ensures (asked (IsInitializer pool m) c.unless-initializer.ensures c.is_initializer.ensures)
    (asked (HasItsCode m) c.unless-code.ensures c.has_its_code.ensures) (asked (IsNarrow pool m) c.unless-wide.ensures c.is_narrow.ensures)
