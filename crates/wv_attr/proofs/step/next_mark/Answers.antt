use Rattle.std.proofs.Common.{length, arith}
use Rattle.wv_attr.specs.Steps.{padded}
use Rattle.wv_attr.proofs.Padding.{length-padded}
use Rattle.wv_attr.proofs.ValueSteps.{stop_at}
use Rattle.wv_attr.proofs.step.next_mark.Goals as goal

pub returns-in-Err : goal.returns-in-Err
returns-in-Err c =
    stop_at c.args.group.kind c.args.group.depth c.args.besides (padded c.args.bytes.now c.args.missing) (length c.args.bytes.now) c.in-Err.place c.clip.result c.clip.ensures (omega (arith, length-padded c.args.bytes.now c.args.missing)) c.in-Err.ensures
