use Rattle.std.proofs.Common.{ℕ, subst, get_or, arith}
use Rattle.wv_frames.specs.declared.raw.RawType.TheVariants as types
use Rattle.wv_frames.specs.Spelling.{type_bytes}
use Rattle.wv_pool.proofs.Entire.{flat_map-more}
use Rattle.wv_code.specs.Least.{IsLeastOf}
use Rattle.wv_code.specs.Checking.{MadeBreaks, TypeAtBreaks}
use Rattle.wv_code.proofs.LeastPlaces.{items_none, items_more, items_all}
use Rattle.wv_code.proofs.frame_break.types_break.Goals as goal

pub loop-one-init : goal.loop-one-init
loop-one-init c = record { least = items_none (TypeAtBreaks c.args.code.now c.args.types.now c.args.base); place = omega arith; small = omega arith }

pub loop-one-preserved : goal.loop-one-preserved
loop-one-preserved c =
    let more = flat_map-more type_bytes c.args.types.now c.loop-one.one-index types.Top c.loop-one-test.true in
    record {
      least = items_more (TypeAtBreaks c.args.code.now c.args.types.now c.args.base) c.args.types.now c.loop-one.one-index types.Top c.loop-one-test.true c.lesser-first.ensures c.loop-one.invariant.least
          (subst (λ (z : ℕ). IsLeastOf (MadeBreaks c.args.code.now z (get_or c.args.types.now c.loop-one.one-index types.Top)) c.type_break.result) c.loop-one.invariant.place c.type_break.ensures);
      place = omega (arith, more, c.loop-one.invariant.place, c.type_len-place.ensures.len);
      small = omega (arith, c.loop-one.invariant.small, c.type_len-place.ensures.small);
    }

pub returns : goal.returns
returns c = items_all (TypeAtBreaks c.args.code.now c.args.types.now c.args.base) c.args.types.now c.loop-one.one-index c.loop-one-test.false c.loop-one.invariant.least
