use Rattle.std.proofs.Common.{option_copied}
use Rattle.wv_version.proofs.Spaces.{read_to-none, read_to-push, read_to-skip, read_to-end, some-from_test, empty-from_test}
use Rattle.wv_version.proofs.predicate.Predicate.read.Goals as goal

pub returns-in_default-2-clause-none : goal.returns-in_default-2-clause-none
returns-in_default-2-clause-none c =
    let so_far = rw c.in-Some.is at c.loop-rest.invariant in
    read_to-none c.args.text.now c.in-Some.text.now c.cut.result.0.now (option_copied c.cut.result.1) c.loop-rest.terms so_far c.cut.ensures
    (some-from_test c.cut.result.0.now c.is_empty.result c.is_empty.ensures c.if-not-is_empty.true)
    (rw c.in_default-2.is at c.in_ok-term.ensures.none)

pub loop-rest-preserved-in_ok-push : goal.loop-rest-preserved-in_ok-push
loop-rest-preserved-in_ok-push c =
    let so_far = rw c.in-Some.is at c.loop-rest.invariant in
    rw c.in_ok-push.ensures.ok
    (read_to-push c.args.text.now c.in-Some.text.now c.cut.result.0.now (option_copied c.cut.result.1) c.loop-rest.terms c.in-Some-2.term so_far c.cut.ensures
    (some-from_test c.cut.result.0.now c.is_empty.result c.is_empty.ensures c.if-not-is_empty.true)
    (rw c.in-Some-2.is at c.in_ok-term.ensures.found))

pub loop-rest-preserved : goal.loop-rest-preserved
loop-rest-preserved c =
    let so_far = rw c.in-Some.is at c.loop-rest.invariant in
    read_to-skip c.args.text.now c.in-Some.text.now c.cut.result.0.now (option_copied c.cut.result.1) c.loop-rest.terms so_far c.cut.ensures
    (empty-from_test c.cut.result.0.now c.is_empty.result c.is_empty.ensures c.if-not-is_empty.false)

pub returns-clause-found : goal.returns-clause-found
returns-clause-found c = read_to-end c.args.text.now c.loop-rest.terms (rw c.in_default.is at c.loop-rest.invariant)
