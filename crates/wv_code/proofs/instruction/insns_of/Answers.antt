use Rattle.std.proofs.Common.{◌≡◌, ◌<◌, ℕ, length, Some, refl, sym, ap, ◌∙◌, arith}
use Rattle.std.specs.Prelude.{slice_get}
use Rattle.std.proofs.lemmas.Option.{slice_get-get_or, slice_get_read}
use Rattle.wv_code.proofs.Meanings.{means_on, means_all, spelled_at}
use Rattle.wv_code.proofs.Starts.{follow_many, follow_ascends}
use Rattle.wv_code.proofs.instruction.insns_of.Goals as goal

pub insn_of-requires-clause-ascend : goal.insn_of-requires-clause-ascend
insn_of-requires-clause-ascend c = follow_ascends c.requires.follow.0 0 c.args.raws.now c.args.offsets.now c.requires.follow.1 c.requires.follow.2

pub insn_of-requires-clause-spelled : goal.insn_of-requires-clause-spelled
insn_of-requires-clause-spelled c = rw c.index-raws-index.is (spelled_at c.requires.follow.0 0 c.args.raws.now c.args.offsets.now c.requires.follow.1 c.loop-index.index c.index-raws-index.result c.requires.follow.2 c.loop-index-test.true)

pub insn_of-requires-clause-sound : goal.insn_of-requires-clause-sound
insn_of-requires-clause-sound c =
    let many : length c.args.raws.now ≡ length c.args.offsets.now = follow_many c.requires.follow.0 0 c.args.raws.now c.args.offsets.now c.requires.follow.1 c.requires.follow.2 in
    let lt : c.loop-index.index < length c.args.raws.now = c.loop-index-test.true in
    let within : c.loop-index.index < length c.args.offsets.now = omega arith in
    let here : slice_get c.args.raws.now c.loop-index.index ≡ Some c.index-raws-index.result = slice_get_read c.args.raws.now (length c.args.raws.now) c.loop-index.index c.index-raws-index.result refl lt c.index-raws-index.is in
    let there : slice_get c.args.offsets.now c.loop-index.index ≡ Some c.offset_at.result = slice_get-get_or c.args.offsets.now c.loop-index.index 0 within ∙ ap (λ (z : ℕ). Some z) (sym c.offset_at.ensures) in
    λ place breaks. c.requires.sound c.loop-index.index c.index-raws-index.result c.offset_at.result place here there breaks

pub loop-index-preserved : goal.loop-index-preserved
loop-index-preserved c =
    rw c.in_ok-push.ensures.ok
    (means_on c.args.pool.now c.args.offsets.now c.args.raws.now c.args.offsets.now c.loop-index.index c.index-raws-index.result c.loop-index.insns c.in_ok-insn_of.field-0 c.loop-index-test.true
    (follow_many c.requires.follow.0 0 c.args.raws.now c.args.offsets.now c.requires.follow.1 c.requires.follow.2) c.index-raws-index.is c.loop-index.invariant (rw c.offset_at.ensures at c.in_ok-insn_of.ensures))

pub returns : goal.returns
returns c =
    means_all c.args.pool.now c.args.offsets.now c.args.raws.now c.args.offsets.now c.loop-index.index c.loop-index.insns (follow_many c.requires.follow.0 0 c.args.raws.now c.args.offsets.now c.requires.follow.1 c.requires.follow.2)
    (omega (arith, c.loop-index-test.false)) c.loop-index.invariant
