use Rattle.std.proofs.Common.{◌≡◌, Some, sym, ◌∙◌, length, rules, refl, slice_get}
use Rattle.std.proofs.lemmas.Slice.Zip.{zip_turn, zip_end}
use Rattle.std.proofs.lemmas.Option.{slice_get_read}
use Rattle.wv_version.proofs.Identifiers.{lists_differ, lists_more, lists_end, equal_from_test, not_equal_from_test, length-push}
use Rattle.wv_version.proofs.identifier.compare_identifiers.Goals as goal

pub returns-then-is_ne : goal.returns-then-is_ne
returns-then-is_ne c =
    let turn = zip_turn c.args.list.now c.args.other.now c.loop-left.yielded c.into_iter-left-iterator.result c.loop-left.left-iterator c.next.new.self c.next.result (search rules) (search rules) c.loop-left.yielded_by (c.in-Some.left, c.in-Some.right) c.in-Some.is c.next.ensures.steps in
    let left : slice_get c.args.list.now (length c.loop-left.yielded) ≡ Some c.in-Some.left.now = slice_get_read c.args.list.now (length c.args.list.now) (length c.loop-left.yielded) c.in-Some.left.now refl turn.0 (turn.2 c.in-Some.left.now) in
    let right : slice_get c.args.other.now (length c.loop-left.yielded) ≡ Some c.in-Some.right.now = slice_get_read c.args.other.now (length c.args.other.now) (length c.loop-left.yielded) c.in-Some.right.now refl turn.1 (turn.3 c.in-Some.right.now) in
    lists_differ c.args.list.now c.args.other.now (length c.loop-left.yielded) c.in-Some.left.now c.in-Some.right.now c.compare-order.result c.loop-left.invariant left right c.compare-order.ensures (not_equal_from_test c.compare-order.result (sym c.is_ne.ensures ∙ c.if-is_ne.true))

pub loop-left-preserved : goal.loop-left-preserved
loop-left-preserved c =
    let turn = zip_turn c.args.list.now c.args.other.now c.loop-left.yielded c.into_iter-left-iterator.result c.loop-left.left-iterator c.next.new.self c.next.result (search rules) (search rules) c.loop-left.yielded_by (c.in-Some.left, c.in-Some.right) c.in-Some.is c.next.ensures.steps in
    let left : slice_get c.args.list.now (length c.loop-left.yielded) ≡ Some c.in-Some.left.now = slice_get_read c.args.list.now (length c.args.list.now) (length c.loop-left.yielded) c.in-Some.left.now refl turn.0 (turn.2 c.in-Some.left.now) in
    let right : slice_get c.args.other.now (length c.loop-left.yielded) ≡ Some c.in-Some.right.now = slice_get_read c.args.other.now (length c.args.other.now) (length c.loop-left.yielded) c.in-Some.right.now refl turn.1 (turn.3 c.in-Some.right.now) in
    lists_more c.args.list.now c.args.other.now (length c.loop-left.yielded) _ c.in-Some.left.now c.in-Some.right.now c.compare-order.result c.loop-left.invariant left right c.compare-order.ensures (equal_from_test c.compare-order.result (sym c.is_ne.ensures ∙ c.if-is_ne.false)) (length-push c.loop-left.yielded (c.in-Some.left, c.in-Some.right))

pub returns : goal.returns
returns c =
    lists_end c.args.list.now c.args.other.now (length c.loop-left.yielded) c.cmp.result
    (zip_end c.args.list.now c.args.other.now c.loop-left.yielded c.into_iter-left-iterator.result c.loop-left.left-iterator c.next.new.self c.next.result (search rules) (search rules) c.loop-left.yielded_by c.in-None.is c.next.ensures.steps)
    c.loop-left.invariant (search rules)
