use Rattle.std.proofs.Common.{◌≤◌, ◌<◌, length, false, take, drop, ◌+◌, arith}
use Rattle.std.proofs.lemmas.List.{take_more}
use Rattle.wv_pool.specs.Entries.{entry_bytes}
use Rattle.wv_pool.proofs.Entire.{flat_map-more, split_at, slots_small, AllByRecursion-push}
use Rattle.wv_pool.proofs.soundness.first_break.Goals as goal

pub returns-in-Some-clause-found : goal.returns-in-Some-clause-found
returns-in-Some-clause-found c = record {
  before = take c.loop-entry.entry-index c.args.pool.now;
  entry = c.entry-item.result;
  after = drop (c.loop-entry.entry-index + 1) c.args.pool.now;
  field = c.in-Some.field;
  parts = rw c.entry-item.is (split_at c.args.pool.now c.loop-entry.entry-index c.entry-item.result c.loop-entry-test.true);
  sound = c.loop-entry.invariant.sound;
  breaks = c.in-Some.ensures.found;
  place = omega (arith, c.loop-entry.invariant.place);
}

pub entry_len-at-requires : goal.entry_len-at-requires
entry_len-at-requires c = rw c.entry-item.is (slots_small false c.args.pool.now c.loop-entry.entry-index c.entry-item.result c.requires.1 c.loop-entry-test.true)

pub overflow_add-at : goal.overflow_add-at
overflow_add-at c =
    let small : length (entry_bytes c.entry-item.result) ≤ 65538 = rw c.entry-item.is (slots_small false c.args.pool.now c.loop-entry.entry-index c.entry-item.result c.requires.1 c.loop-entry-test.true) in
    let few : length c.args.pool.now + 1 < 65536 = c.requires.0 in
    omega (arith, small, few, c.loop-entry.invariant.small, c.entry_len-at.ensures, c.loop-entry-test.true)

pub loop-entry-preserved : goal.loop-entry-preserved
loop-entry-preserved c =
    let small : length (entry_bytes c.entry-item.result) ≤ 65538 = rw c.entry-item.is (slots_small false c.args.pool.now c.loop-entry.entry-index c.entry-item.result c.requires.1 c.loop-entry-test.true) in
    let one = flat_map-more entry_bytes c.args.pool.now c.loop-entry.entry-index c.entry-item.result c.loop-entry-test.true in
    record {
      sound = rw (take_more c.args.pool.now c.loop-entry.entry-index c.entry-item.result c.loop-entry-test.true, ← c.entry-item.is) (AllByRecursion-push _ _ _ c.loop-entry.invariant.sound c.in_default.ensures.none);
      place = omega (arith, (rw (← c.entry-item.is) at one), c.loop-entry.invariant.place, c.entry_len-at.ensures);
      small = omega (arith, small, c.loop-entry.invariant.small, c.entry_len-at.ensures);
    }
