use Rattle.std.proofs.Common.{length, arith}
use Rattle.wv_attr.specs.Steps.{padded}
use Rattle.wv_attr.proofs.Padding.{length-padded, least_there}
use Rattle.wv_attr.proofs.Fills.{least_room}
use Rattle.wv_attr.proofs.StepFaults.{list_fault}
use Rattle.wv_attr.proofs.ValueSteps.{list_ok}
use Rattle.wv_attr.proofs.step.list_at.Goals as goal

pub count_at-requires-clause-long : goal.count_at-requires-clause-long
count_at-requires-clause-long c = least_there (length c.args.bytes.now) c.args.missing 2 c.requires.near (omega (arith, least_room c.requires.fits)) (omega arith)

pub returns-in-Err : goal.returns-in-Err
returns-in-Err c =
    list_fault c.args.depth c.args.besides (padded c.args.bytes.now c.args.missing) c.in-Err.place (omega (arith, length-padded c.args.bytes.now c.args.missing, least_room c.requires.fits)) c.in-Err.ensures

pub returns-in-Ok : goal.returns-in-Ok
returns-in-Ok c =
    list_ok c.args.depth c.args.besides (padded c.args.bytes.now c.args.missing) c.in-Ok.count (omega (arith, length-padded c.args.bytes.now c.args.missing, least_room c.requires.fits)) c.in-Ok.ensures
