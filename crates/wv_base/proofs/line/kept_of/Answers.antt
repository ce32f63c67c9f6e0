use Rattle.std.proofs.Common.{◌∙◌}
use Rattle.wv_base.proofs.Buffer.{kept-short, kept-long}
use Rattle.wv_base.proofs.line.kept_of.Goals as goal

pub returns-then-len-lt-LINE-clause-kept : goal.returns-then-len-lt-LINE-clause-kept
returns-then-len-lt-LINE-clause-kept c = λ text shows. kept-short c.args.out.now c.args.len text c.told-out c.if-len-lt-LINE.true shows

pub returns-else-len-lt-LINE-clause-kept : goal.returns-else-len-lt-LINE-clause-kept
returns-else-len-lt-LINE-clause-kept c =
    λ text shows. c.last_start.ensures.start ∙ kept-long c.args.out.now c.args.len text c.told-out c.if-len-lt-LINE.false shows
