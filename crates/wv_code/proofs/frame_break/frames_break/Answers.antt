use Rattle.std.proofs.Common.{◌≡◌, ◌+◌, take, refl, arith}
use Rattle.wv_frames.specs.Spelling.{frame_bytes}
use Rattle.wv_frames.specs.Whole.{delta_of}
use Rattle.wv_pool.proofs.Entire.{flat_map-more}
use Rattle.wv_code.specs.Breaks.{next_offset}
use Rattle.wv_code.specs.Checking.{FrameAtBreaks}
use Rattle.wv_code.proofs.LeastPlaces.{items_none, items_more, items_all}
use Rattle.wv_code.proofs.FramePlaces.{next_at}
use Rattle.wv_code.proofs.TablePlaces.{frame_at_least}
use Rattle.wv_code.proofs.frame_break.frames_break.Goals as goal

pub loop-frame-init : goal.loop-frame-init
loop-frame-init c = record { least = items_none (FrameAtBreaks c.args.code.now c.args.frames.now c.args.base); next = refl; few = omega arith; place = omega arith; small = omega arith }

pub loop-frame-preserved : goal.loop-frame-preserved
loop-frame-preserved c =
    let more = flat_map-more frame_bytes c.args.frames.now c.loop-frame.frame-index c.frame-item.result c.loop-frame-test.true in
    let next = next_at c.args.frames.now c.loop-frame.frame-index c.frame-item.result c.loop-frame-test.true in
    let at : c.loop-frame.next + c.from.result ≡ next_offset 0 (take c.loop-frame.frame-index c.args.frames.now) + delta_of c.frame-item.result = omega (arith, c.loop-frame.invariant.next, c.from.ensures, c.delta_of.ensures) in
    record {
      least = items_more (FrameAtBreaks c.args.code.now c.args.frames.now c.args.base) c.args.frames.now c.loop-frame.frame-index c.frame-item.result c.loop-frame-test.true c.lesser-first.ensures c.loop-frame.invariant.least
          (frame_at_least c.args.code.now c.args.frames.now c.args.base c.loop-frame.frame-index c.loop-frame.place (c.loop-frame.next + c.from.result) c.frame-item.result c.loop-frame.invariant.place at c.frame-item.is c.frame_break.ensures);
      next = omega (arith, at, (rw (← c.frame-item.is) at next));
      few = omega (arith, c.loop-frame.invariant.few, c.from.ensures);
      place = omega (arith, (rw (← c.frame-item.is) at more), c.loop-frame.invariant.place, c.frame_len-place.ensures.len);
      small = omega (arith, c.loop-frame.invariant.small, c.frame_len-place.ensures.small);
    }

pub returns : goal.returns
returns c = items_all (FrameAtBreaks c.args.code.now c.args.frames.now c.args.base) c.args.frames.now c.loop-frame.frame-index c.loop-frame-test.false c.loop-frame.invariant.least
