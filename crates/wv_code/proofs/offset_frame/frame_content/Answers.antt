use Rattle.std.proofs.lemmas.Result.{err_from_is_err_and}
use Rattle.wv_frames.specs.Writing.{frames_need}
use Rattle.wv_code.proofs.Lists.{below_more}
use Rattle.wv_code.proofs.Stands.{as_many, within}
use Rattle.wv_code.proofs.OffsetFrames.{all_within, are_writable_frames, named_frames, grown_same, not_many}
use Rattle.wv_code.proofs.offset_frame.frame_content.Goals as goal

pub offset_frames-requires : goal.offset_frames-requires
offset_frames-requires c =
    rw (c.as_slice-2.ensures, c.as_slice.ensures, as_many c.args.pool.now 0 c.args.body.now.insns c.args.layout.now.offsets c.args.layout.now.len c.requires.laid.stand)
    (all_within c.args.body.now.insns 0 c.args.body.now.frames c.requires.formed.1)

pub write_frames-requires : goal.write_frames-requires
write_frames-requires c =
    are_writable_frames c.args.pool.now c.args.body.now.insns c.args.layout.now.offsets c.args.layout.now.len c.in_ok-raws.raws c.args.body.now.frames c.requires.laid.stand
    (below_more c.args.layout.now.offsets c.args.layout.now.len 65535 c.requires.laid.small (within c.args.pool.now 0 c.args.body.now.insns c.args.layout.now.offsets c.args.layout.now.len c.requires.laid.stand))
    (rw (c.as_slice-2.ensures, c.as_slice.ensures) at c.in_ok-raws.ensures) c.requires.formed

pub returns-in_err-write_frames-clause-not_full : goal.returns-in_err-write_frames-clause-not_full
returns-in_err-write_frames-clause-not_full c =
    let p = err_from_is_err_and c.from_residual-in_err-write_frames.result c.from_residual-in_err-write_frames.ensures.1 in
    rw (p.1, p.2) (λ e. not_many c.args.pool.now (frames_need c.in_ok-raws.raws) c.entries-entries.ensures.sound.0.0 (c.in_err-write_frames.ensures.full e)
    (named_frames c.args.pool.now c.args.layout.now.offsets c.in_ok-raws.raws c.args.body.now.frames (rw (c.as_slice-2.ensures, c.as_slice.ensures) at c.in_ok-raws.ensures) c.requires.named))

pub returns-clause-same : goal.returns-clause-same
returns-clause-same c =
    grown_same c.args.pool.now c.write_frames.new.pool (frames_need c.in_ok-raws.raws) c.in_ok-write_frames.ensures.grows
    (named_frames c.args.pool.now c.args.layout.now.offsets c.in_ok-raws.raws c.args.body.now.frames (rw (c.as_slice-2.ensures, c.as_slice.ensures) at c.in_ok-raws.ensures) c.requires.named)
