use Rattle.std.proofs.Common.{◌≡◌, ◌<◌, ◌+◌, ◌-◌, length, [], Ok, Err, arith}
use Rattle.std.proofs.lemmas.Bool.Decides.{nat_tests}
use Rattle.std.proofs.lemmas.List.{nil_from_length}
use Rattle.wv_base.specs.Modified.{Reads}
use Rattle.wv_base.proofs.NameSpelling.{goes_on, stops, ends, is_exact, one_reading}
use Rattle.wv_base.proofs.modified.from_modified.Goals as goal
use Rattle.wv_base.proofs.modified.from_modified.Goals.{In-Err, In_ok-from_vec}

-- the reading, where it stops at a fault
fault : (c : In-Err) → Reads c.args.bytes.now (Err (length c.args.bytes.now - length c.loop-rest.rest.now + c.in-Err.place))
fault c =
    let more : 0 < length c.loop-rest.rest.now = grind (arith, nat_tests, c.loop-rest-test.ensures) in
    stops c.args.bytes.now c.loop-rest.units.items c.loop-rest.rest.now c.in-Err.place c.loop-rest.invariant more c.in-Err.ensures

-- the reading, where the bytes are at their end
whole : (c : In_ok-from_vec) → Reads c.args.bytes.now (Ok c.in_ok-from_vec.field-0)
whole c =
    let none : c.loop-rest.rest.now ≡ [] = nil_from_length c.loop-rest.rest.now (grind (arith, nat_tests, c.loop-rest-test.ensures)) in
    rw c.in_ok-from_vec.ensures (ends c.args.bytes.now c.loop-rest.units.items c.loop-rest.rest.now c.loop-rest.invariant none)

pub loop-rest-smaller : goal.loop-rest-smaller
loop-rest-smaller c = (goes_on c.args.bytes.now c.loop-rest.units.items c.loop-rest.rest.now c.in-Ok.after.now c.in-Ok.unit c.loop-rest.invariant c.in-Ok.ensures).1

pub loop-rest-preserved : goal.loop-rest-preserved
loop-rest-preserved c = rw c.in_ok-push-in-Ok.ensures.items ((goes_on c.args.bytes.now c.loop-rest.units.items c.loop-rest.rest.now c.in-Ok.after.now c.in-Ok.unit c.loop-rest.invariant c.in-Ok.ensures).0)

pub overflow_add-at : goal.overflow_add-at
overflow_add-at c = omega (arith, (fault c).within)

pub returns-in-Err-clause-only : goal.returns-in-Err-clause-only
returns-in-Err-clause-only c name is e = one_reading c.args.bytes.now (Ok name) _ (is, e) (fault (goal.at.returns-in-Err-clause-only c).In-Err)

pub returns-in-Err-clause-fault : goal.returns-in-Err-clause-fault
returns-in-Err-clause-fault c = fault (goal.at.returns-in-Err-clause-fault c).In-Err

pub returns-in-Err-clause-exact : goal.returns-in-Err-clause-exact
returns-in-Err-clause-exact c = is_exact c.args.bytes.now _ (fault (goal.at.returns-in-Err-clause-exact c).In-Err)

pub returns-clause-only : goal.returns-clause-only
returns-clause-only c name is e = one_reading c.args.bytes.now (Ok name) _ (is, e) (whole c)

pub returns-clause-exact : goal.returns-clause-exact
returns-clause-exact c = is_exact c.args.bytes.now _ (whole c)
