use Rattle.std.proofs.Common.{ℕ, length, sym, subst, arith}
use Rattle.wv_room.specs.declared.element_count.ElementKind.TheVariants as kinds
use Rattle.wv_room.specs.Counts.{elements_with, ElementsFillRoom}
use Rattle.wv_attr.proofs.Padding.{length-padded, room_after, least_there}
use Rattle.wv_attr.proofs.Fills.{least_room}
use Rattle.wv_attr.proofs.StepFaults.{annotation_step}
use Rattle.wv_attr.proofs.ValueSteps.{annotation_ok}
use Rattle.wv_attr.proofs.step.annotation_at.Goals as goal

pub unreachable-requires : goal.unreachable-requires
unreachable-requires c = let some = least_there (length c.args.bytes.now) c.args.missing 4 c.requires.near (omega (arith, least_room c.requires.fits)) (omega arith) in omega (arith, some)

pub count_at-requires-clause-long : goal.count_at-requires-clause-long
count_at-requires-clause-long c =
    let some = least_there (length c.args.bytes.now) c.args.missing 4 c.requires.near (omega (arith, least_room c.requires.fits)) (omega arith) in
    omega (arith, room_after 2 c.args.bytes.now c.args.missing c.in-len2-up.len_at_least, length-padded c.args.bytes.now c.args.missing)

pub returns-in-Err : goal.returns-in-Err
returns-in-Err c =
    let some = least_there (length c.args.bytes.now) c.args.missing 4 c.requires.near (omega (arith, least_room c.requires.fits)) (omega arith) in
    annotation_step c.args.depth c.args.besides c.args.bytes.now c.args.missing c.number-class.result c.in-Err.place (omega (arith, c.number-class.type_inv)) c.number-class.ensures some
    (subst (λ (k : ℕ). ElementsFillRoom (elements_with kinds.Annotation 1 c.args.besides) k) (sym (length-padded c.args.bytes.now c.args.missing)) c.requires.fits) c.in-Err.ensures

pub returns-in-Ok : goal.returns-in-Ok
returns-in-Ok c =
    let some = least_there (length c.args.bytes.now) c.args.missing 4 c.requires.near (omega (arith, least_room c.requires.fits)) (omega arith) in
    annotation_ok c.args.depth c.args.besides c.args.bytes.now c.args.missing c.number-class.result c.in-Ok.count (omega (arith, c.number-class.type_inv)) some c.number-class.ensures c.in-Ok.ensures
