use Rattle.wv_code.specs.Breaks.{insn, range}
use Rattle.wv_code.proofs.Shaped.{formed}
use Rattle.wv_code.proofs.Starts.{follow_below, follow_ascends}
use Rattle.wv_code.proofs.Tables.{once, frames_layout, frames_sound}
use Rattle.wv_code.proofs.body.body_of.Goals as goal

pub insns_of-requires-clause-sound : goal.insns_of-requires-clause-sound
insns_of-requires-clause-sound c = rw (c.as_slice.ensures, c.as_slice-offsets.ensures) (λ k r at place here there breaks. c.requires.sound _ (insn k r at place here there breaks))

pub ranges_of-requires-clause-ascend : goal.ranges_of-requires-clause-ascend
ranges_of-requires-clause-ascend c =
    let content = c.requires.content.1 in
    rw c.as_slice-offsets.ensures (follow_ascends content.code 0 c.args.raw.code.raws c.args.raw.code.offsets c.args.raw.len content.follow)

pub ranges_of-requires-clause-within : goal.ranges_of-requires-clause-within
ranges_of-requires-clause-within c =
    let content = c.requires.content.1 in
    rw c.as_slice-offsets.ensures (follow_below content.code 0 c.args.raw.code.raws c.args.raw.code.offsets c.args.raw.len content.follow)

pub ranges_of-requires-clause-sound : goal.ranges_of-requires-clause-sound
ranges_of-requires-clause-sound c = rw (c.as_slice-2.ensures, c.as_slice-offsets.ensures) (λ k r place here breaks. c.requires.sound _ (range k r place here breaks))

pub frames_in-requires : goal.frames_in-requires
frames_in-requires c = rw c.as_slice-3.ensures (once c.args.pool.now c.args.first.now c.args.raw c.requires.sound)

pub frames_of-requires-clause-ascend : goal.frames_of-requires-clause-ascend
frames_of-requires-clause-ascend c =
    let content = c.requires.content.1 in
    follow_ascends content.code 0 c.args.raw.code.raws c.args.raw.code.offsets c.args.raw.len content.follow

pub frames_of-requires-clause-layout : goal.frames_of-requires-clause-layout
frames_of-requires-clause-layout c =
    let content = c.requires.content.1 in
    rw (c.frames_in.ensures, c.as_slice-3.ensures) (frames_layout c.args.pool.now c.args.raw.attributes (once c.args.pool.now c.args.first.now c.args.raw c.requires.sound) content.attributes)

pub frames_of-requires-clause-sound : goal.frames_of-requires-clause-sound
frames_of-requires-clause-sound c = rw (c.frames_in.ensures, c.as_slice-3.ensures) (frames_sound c.args.pool.now c.args.first.now c.args.raw c.requires.sound)

pub returns-clause-formed : goal.returns-clause-formed
returns-clause-formed c =
    let content = c.requires.content.1 in
    formed c.args.pool.now content.code c.args.raw.code.raws c.args.raw.code.offsets c.in_ok-insns.insns c.args.raw.len c.entries-entries.ensures.sound content.follow (rw (c.as_slice.ensures, c.as_slice-offsets.ensures) at c.in_ok-insns.ensures)
    (λ k r at place here there breaks. c.requires.sound _ (insn k r at place here there breaks))
