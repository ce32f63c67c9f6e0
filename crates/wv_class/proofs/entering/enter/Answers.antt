use Rattle.wv_class.proofs.Growth.{added}
use Rattle.wv_class.proofs.entering.enter.Goals as goal

pub returns : goal.returns
returns c = added c.args.pool.now c.add.new.self c.args.constant.now c.entries-entries.ensures.sound (λ there. (c.in_ok-add.ensures.same there).0) c.in_ok-add.ensures.grows
