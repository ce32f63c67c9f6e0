use Rattle.std.specs.Prelude.{pos, slice_index_or}
use Rattle.std.specs.Int.{w32}
use Rattle.std.proofs.lemmas.Int.{to_z-of_z}
use Rattle.std.proofs.lemmas.Option.{slice_get-get_or}
use Rattle.wv_insn.specs.declared.raw.RawCase.{RawCase}
use Rattle.wv_insn.specs.Spelling.{IsCase}
use Rattle.wv_code.specs.Breaks.{Lands}
use Rattle.wv_code.specs.Checking.{IsAbove, CaseBreaks}
use Rattle.wv_code.proofs.Lists.{AllByRecursion-at}
use Rattle.wv_code.proofs.LeastPlaces.{items_none, items_more, items_all, asked, either}
use Rattle.wv_code.proofs.insn_break.cases_break.Goals as goal

pub loop-k-init : goal.loop-k-init
loop-k-init c = items_none (CaseBreaks c.args.offsets.now c.args.at c.args.cases.now c.args.base)

pub loop-k-preserved : goal.loop-k-preserved
loop-k-preserved c =
    let none : RawCase = record { key = pos 0; offset = pos 0 } in
    let case : RawCase = slice_index_or c.args.cases.now c.loop-k.k none in
    items_more (CaseBreaks c.args.offsets.now c.args.at c.args.cases.now c.args.base) c.args.cases.now c.loop-k.k none c.loop-k-test.true c.lesser-first.ensures c.loop-k.invariant
    (either c.lesser.ensures
    (asked (IsAbove c.args.cases.now c.loop-k.k case) c.unless-key.ensures (c.is_above.ensures case (slice_get-get_or c.args.cases.now c.loop-k.k none c.loop-k-test.true)))
    (asked (Lands c.args.offsets.now c.args.at case.offset) c.unless-target.ensures
    (rw (to_z-of_z w32 case.offset (AllByRecursion-at IsCase c.args.cases.now c.loop-k.k none c.loop-k-test.true c.requires.typed).1) at c.lands.ensures)))

pub returns : goal.returns
returns c = items_all (CaseBreaks c.args.offsets.now c.args.at c.args.cases.now c.args.base) c.args.cases.now c.loop-k.k c.loop-k-test.false c.loop-k.invariant
