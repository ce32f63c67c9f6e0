use Rattle.std.proofs.Common.{◌≤◌}
use Rattle.wv_code.proofs.LeastPlaces.{asked}
use Rattle.wv_code.proofs.ContentPlaces.{content_starts, content_least, first_found, none_found}
use Rattle.wv_code.proofs.reference.first_break.Goals as goal

pub insns_break-insns-requires-clause-starts : goal.insns_break-insns-requires-clause-starts
insns_break-insns-requires-clause-starts c = (c.args.raw.now.len, content_starts c.args.pool.now c.args.raw.now c.requires.0 c.requires.1)

pub ranges_break-ranges-requires-clause-ascend : goal.ranges_break-ranges-requires-clause-ascend
ranges_break-ranges-requires-clause-ascend c = rw c.as_slice-offsets.ensures (content_starts c.args.pool.now c.args.raw.now c.requires.0 c.requires.1).ascend

pub attributes_break-requires-clause-starts : goal.attributes_break-requires-clause-starts
attributes_break-requires-clause-starts c = (c.args.raw.now.len, content_starts c.args.pool.now c.args.raw.now c.requires.0 c.requires.1)

pub returns-clause-found : goal.returns-clause-found
returns-clause-found c =
    first_found c.args.pool.now c.args.first.now c.args.raw.now c.lesser-3.result
    (content_least c.args.pool.now c.args.first.now c.args.raw.now (content_starts c.args.pool.now c.args.raw.now c.requires.0 c.requires.1) c.lesser-3.ensures c.lesser.ensures c.lesser-2.ensures
    (asked ((1 ≤ c.args.raw.now.len) × (c.args.raw.now.len ≤ 65535)) c.unless-len.ensures c.is_code_len.ensures) c.insns_break-insns.ensures
    (rw (c.as_slice-offsets.ensures, c.as_slice.ensures) at c.ranges_break-ranges.ensures)
    (rw (c.as_slice-attributes.ensures, c.len.ensures) at c.in_ok-others.ensures))

pub returns-clause-none : goal.returns-clause-none
returns-clause-none c =
    none_found c.args.pool.now c.args.first.now c.args.raw.now c.lesser-3.result
    (content_least c.args.pool.now c.args.first.now c.args.raw.now (content_starts c.args.pool.now c.args.raw.now c.requires.0 c.requires.1) c.lesser-3.ensures c.lesser.ensures c.lesser-2.ensures
    (asked ((1 ≤ c.args.raw.now.len) × (c.args.raw.now.len ≤ 65535)) c.unless-len.ensures c.is_code_len.ensures) c.insns_break-insns.ensures
    (rw (c.as_slice-offsets.ensures, c.as_slice.ensures) at c.ranges_break-ranges.ensures)
    (rw (c.as_slice-attributes.ensures, c.len.ensures) at c.in_ok-others.ensures))
