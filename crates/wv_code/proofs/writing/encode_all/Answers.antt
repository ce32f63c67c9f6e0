use Rattle.std.proofs.Common.{length}
use Rattle.std.proofs.lemmas.Option.{slice_get-get_or}
use Rattle.wv_pool.specs.Numbers.{Named}
use Rattle.wv_code.specs.Constants.{constants_in}
use Rattle.wv_code.specs.Formed.{IsFormed}
use Rattle.wv_code.proofs.Lists.{AllByRecursion-at, below_more, small_at}
use Rattle.wv_code.proofs.Stands.{within, as_many}
use Rattle.wv_code.proofs.Written.{nothing_yet, step_encoded, loop_encoded, constants_at}
use Rattle.wv_code.proofs.writing.encode_all.Goals as goal

pub loop-index-init : goal.loop-index-init
loop-index-init c = rw (c.as_slice-offsets.ensures, c.new-code.ensures) (nothing_yet c.args.pool.now c.args.insns.now c.args.layout.now.offsets c.args.layout.now.len c.requires.laid.stand)

pub raw_of-requires-clause-here : goal.raw_of-requires-clause-here
raw_of-requires-clause-here c =
    rw (c.offset_at-at.ensures, c.as_slice-offsets.ensures)
    (small_at c.args.layout.now.offsets c.loop-index.index 65535
    (below_more c.args.layout.now.offsets c.args.layout.now.len 65535 c.requires.laid.small (within c.args.pool.now 0 c.args.insns.now c.args.layout.now.offsets c.args.layout.now.len c.requires.laid.stand)))

pub raw_of-requires-clause-few : goal.raw_of-requires-clause-few
raw_of-requires-clause-few c =
    rw c.as_slice-offsets.ensures
    (below_more c.args.layout.now.offsets c.args.layout.now.len 65535 c.requires.laid.small (within c.args.pool.now 0 c.args.insns.now c.args.layout.now.offsets c.args.layout.now.len c.requires.laid.stand))

pub raw_of-requires-clause-shaped : goal.raw_of-requires-clause-shaped
raw_of-requires-clause-shaped c =
    rw (c.as_slice-offsets.ensures, as_many c.args.pool.now 0 c.args.insns.now c.args.layout.now.offsets c.args.layout.now.len c.requires.laid.stand, c.index-insns-index.is)
    (AllByRecursion-at (IsFormed (length c.args.insns.now)) c.args.insns.now c.loop-index.index c.index-insns-index.result c.loop-index-test.true c.requires.formed).1

pub raw_of-requires-clause-reaches : goal.raw_of-requires-clause-reaches
raw_of-requires-clause-reaches c =
    rw (c.offset_at-at.ensures, c.as_slice-offsets.ensures, c.index-insns-index.is)
    (c.requires.laid.reach c.loop-index.index _ (slice_get-get_or c.args.insns.now c.loop-index.index c.index-insns-index.result c.loop-index-test.true))

pub raw_of-requires-clause-named : goal.raw_of-requires-clause-named
raw_of-requires-clause-named c =
    rw c.index-insns-index.is (constants_at (Named c.args.pool.now) constants_in c.args.insns.now c.loop-index.index c.index-insns-index.result c.loop-index-test.true c.requires.named)

pub loop-index-preserved : goal.loop-index-preserved
loop-index-preserved c =
    step_encoded c.args.pool.now c.args.insns.now c.as_slice-offsets.result.now c.args.layout.now.offsets c.args.layout.now.len c.loop-index.index c.offset_at-at.result c.index-insns-index.result c.loop-index.code _ c.in_ok-raw.raw
    c.as_slice-offsets.ensures c.offset_at-at.ensures c.index-insns-index.is c.loop-index-test.true c.requires.laid.stand c.loop-index.invariant c.in_ok-raw.ensures.written c.in_ok-encode.ensures.spelled.typed c.in_ok-encode.ensures.spelled.instruction
    c.in_ok-encode.ensures.appended

pub returns-clause-code : goal.returns-clause-code
returns-clause-code c =
    (loop_encoded c.args.pool.now c.args.insns.now c.as_slice-offsets.result.now c.args.layout.now c.loop-index.index c.loop-index.code c.as_slice-offsets.ensures c.loop-index-test.false c.loop-index.auto.index-end c.requires.laid c.loop-index.invariant).0

pub returns-clause-len : goal.returns-clause-len
returns-clause-len c =
    (loop_encoded c.args.pool.now c.args.insns.now c.as_slice-offsets.result.now c.args.layout.now c.loop-index.index c.loop-index.code c.as_slice-offsets.ensures c.loop-index-test.false c.loop-index.auto.index-end c.requires.laid c.loop-index.invariant).1
