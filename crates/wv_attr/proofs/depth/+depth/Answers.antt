use Rattle.std.proofs.Common.{arith}
use Rattle.wv_attr.proofs.Flattened.{leaf_within, leaf_depth, array_within, nested_within, none_within, pair_within}
use Rattle.wv_attr.proofs.depth.+depth.Goals as goal

pub is_within-returns-in_default : goal.is_within-returns-in_default
is_within-returns-in_default t c = none_within c.args.value.now c.args.left c.in_default.ensures

pub is_within-returns-in-Annotation : goal.is_within-returns-in-Annotation
is_within-returns-in-Annotation t c =
    let is = rw c.as_slice.ensures at c.pairs_are_within.ensures in
    nested_within c.args.value.now c.in-Annotation.nested c.args.left c.in-Some.inside c.pairs_are_within.result c.in-Annotation.is (omega (arith, c.in-Some.ensures.0, c.in-Some.ensures.1)) is

pub is_within-returns-in-Array : goal.is_within-returns-in-Array
is_within-returns-in-Array t c =
    let is = rw c.as_slice-in-Array.ensures at c.are_within.ensures in
    array_within c.args.value.now c.in-Array.values c.args.left c.in-Some.inside c.are_within.result c.in-Array.is (omega (arith, c.in-Some.ensures.0, c.in-Some.ensures.1)) is

pub is_within-returns-in-Constant : goal.is_within-returns-in-Constant
is_within-returns-in-Constant t c = leaf_within c.args.value.now c.args.left c.in-Some.inside (leaf_depth c.args.value.now c.in-Constant.is) (omega (arith, c.in-Some.ensures.0, c.in-Some.ensures.1))

pub is_within-returns-in-Constant-2 : goal.is_within-returns-in-Constant-2
is_within-returns-in-Constant-2 t c = leaf_within c.args.value.now c.args.left c.in-Some.inside (leaf_depth c.args.value.now c.in-Constant.is) (omega (arith, c.in-Some.ensures.0, c.in-Some.ensures.1))

pub is_within-returns-in-Constant-3 : goal.is_within-returns-in-Constant-3
is_within-returns-in-Constant-3 t c = leaf_within c.args.value.now c.args.left c.in-Some.inside (leaf_depth c.args.value.now c.in-Constant.is) (omega (arith, c.in-Some.ensures.0, c.in-Some.ensures.1))

pub pair_is_within-returns : goal.pair_is_within-returns
pair_is_within-returns t c = pair_within c.args.pair.now c.args.left c.is_within.result c.is_within.ensures
