use Rattle.std.proofs.Common.{List, get_or, take, Some, sym, ◌∙◌, ap, arith}
use Rattle.std.proofs.lemmas.List.{take_more}
use Rattle.std.proofs.lemmas.Result.{err_from_is_err_and}
use Rattle.wv_base.specs.declared.frame.VType.{VType}
use Rattle.wv_pool.proofs.Entire.{flat_map-more}
use Rattle.wv_frames.specs.declared.raw.RawType.TheVariants as types
use Rattle.wv_frames.specs.Spelling.{type_bytes}
use Rattle.wv_frames.proofs.WholeFrames.{types_more}
use Rattle.wv_frames.proofs.WholeFaults.{types_break}
use Rattle.wv_frames.proofs.whole.whole_types.Goals as goal

pub returns-in_err-whole_type-clause-fault : goal.returns-in_err-whole_type-clause-fault
returns-in_err-whole_type-clause-fault c =
    let p = err_from_is_err_and c.from_residual.result c.from_residual.ensures.1 in
    rw (p.1, p.2) (types_break c.args.pool.now c.args.raw.now c.args.base c.loop-one.at c.loop-one.one-index c.loop-one.types c.in_err-whole_type.field-0.0 c.loop-one-test.true c.loop-one.invariant.found c.loop-one.invariant.place c.in_err-whole_type.ensures.fault)

pub loop-one-preserved : goal.loop-one-preserved
loop-one-preserved c =
    let one = get_or c.args.raw.now c.loop-one.one-index types.Top in
    let more = flat_map-more type_bytes c.args.raw.now c.loop-one.one-index types.Top c.loop-one-test.true in
    record {
      found = rw (take_more c.args.raw.now c.loop-one.one-index types.Top c.loop-one-test.true) (types_more c.args.pool.now (take c.loop-one.one-index c.args.raw.now) c.loop-one.types one c.in_ok-whole_type.field-0 c.loop-one.invariant.found c.in_ok-whole_type.ensures.found ∙ ap (λ (ts : List VType). Some ts) (sym c.in_ok-push.ensures.ok));
      place = omega (arith, more, c.loop-one.invariant.place, c.type_len.ensures.len);
      small = omega (arith, c.loop-one.invariant.small, c.type_len.ensures.small);
    }
