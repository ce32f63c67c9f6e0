use Rattle.std.proofs.Common.{◌+◌, get_or, take, drop, arith}
use Rattle.std.proofs.lemmas.List.{take_more}
use Rattle.wv_pool.proofs.Entire.{flat_map-more, flat_map-front, split_at, AllByRecursion-push}
use Rattle.wv_attr.specs.declared.mark.Mark.TheVariants as marks
use Rattle.wv_attr.specs.Marks.{mark_bytes}
use Rattle.wv_attr.proofs.reference.first_break.Goals as goal

pub returns-in-Some-clause-found : goal.returns-in-Some-clause-found
returns-in-Some-clause-found c = record {
  before = take c.loop-mark.mark-index c.args.parts.now;
  part = get_or c.args.parts.now c.loop-mark.mark-index (marks.List 0);
  after = drop (c.loop-mark.mark-index + 1) c.args.parts.now;
  field = c.in-Some.field;
  splits = split_at c.args.parts.now c.loop-mark.mark-index (marks.List 0) c.loop-mark-test.true;
  sound = c.loop-mark.invariant.sound;
  breaks = c.in-Some.ensures.found;
  place = omega (arith, c.loop-mark.invariant.place);
}

pub overflow_add-result : goal.overflow_add-result
overflow_add-result c =
    omega (arith, c.in-Some.ensures.near, c.loop-mark.invariant.place, c.requires.small, flat_map-front mark_bytes c.args.parts.now c.loop-mark.mark-index)

pub overflow_add-at : goal.overflow_add-at
overflow_add-at c =
    let one = flat_map-more mark_bytes c.args.parts.now c.loop-mark.mark-index (marks.List 0) c.loop-mark-test.true in
    omega (arith, one, c.len-at.ensures, c.loop-mark.invariant.place, c.requires.small, flat_map-front mark_bytes c.args.parts.now (c.loop-mark.mark-index + 1))

pub loop-mark-preserved : goal.loop-mark-preserved
loop-mark-preserved c =
    let one = flat_map-more mark_bytes c.args.parts.now c.loop-mark.mark-index (marks.List 0) c.loop-mark-test.true in
    record {
      sound = rw (take_more c.args.parts.now c.loop-mark.mark-index (marks.List 0) c.loop-mark-test.true) (AllByRecursion-push _ _ _ c.loop-mark.invariant.sound c.in_default.ensures.none);
      place = omega (arith, one, c.loop-mark.invariant.place, c.len-at.ensures);
    }
