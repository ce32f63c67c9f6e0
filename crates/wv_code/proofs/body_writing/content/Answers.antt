use Rattle.std.proofs.Common.{[], false, arith}
use Rattle.std.specs.List.{flat_map}
use Rattle.wv_base.specs.declared.frame.Frame.{Frame}
use Rattle.wv_pool.specs.Numbers.{Named}
use Rattle.wv_code.specs.FormedBody.{IsFormedKept}
use Rattle.wv_code.specs.BodyConstants.{range_constants, table_constants}
use Rattle.wv_code.specs.WritingBody.{HasRoom}
use Rattle.wv_code.proofs.Lists.{AllByRecursion-map, below_more}
use Rattle.wv_code.proofs.Stands.{as_many, within}
use Rattle.wv_code.proofs.Written.{all_front, all_back}
use Rattle.wv_code.proofs.RawRanges.{as_many_ranges}
use Rattle.wv_code.proofs.BodyWritten.{tables_room}
use Rattle.wv_code.proofs.BodySpelled.{writes_body}
use Rattle.wv_code.proofs.body_writing.content.Goals as goal

-- a frame, whichever
empty : Frame
empty = record { locals = []; stack = []; this_uninitialized = false }

pub raw_ranges-requires-clause-formed : goal.raw_ranges-requires-clause-formed
raw_ranges-requires-clause-formed c =
    rw (c.as_slice.ensures, as_many c.args.pool.now 0 c.args.body.now.insns c.args.layout.now.offsets c.args.layout.now.len c.requires.laid.stand) c.requires.formed.1.ranges.1

pub raw_ranges-requires-clause-few : goal.raw_ranges-requires-clause-few
raw_ranges-requires-clause-few c =
    below_more c.args.layout.now.offsets c.args.layout.now.len 65535 c.requires.laid.small (within c.args.pool.now 0 c.args.body.now.insns c.args.layout.now.offsets c.args.layout.now.len c.requires.laid.stand)

pub raw_ranges-requires-clause-named : goal.raw_ranges-requires-clause-named
raw_ranges-requires-clause-named c =
    rw c.as_slice.ensures (all_front (Named c.args.pool.now) (flat_map range_constants c.args.body.now.ranges) (table_constants c.args.body.now.frames) c.requires.named)

pub tables-requires-clause-named : goal.tables-requires-clause-named
tables-requires-clause-named c = all_back (Named c.args.pool.now) (flat_map range_constants c.args.body.now.ranges) (table_constants c.args.body.now.frames) c.requires.named

pub body_to_bytes-requires-clause-few_ranges : goal.body_to_bytes-requires-clause-few_ranges
body_to_bytes-requires-clause-few_ranges c =
    rw c.as_slice-ranges.ensures
    (omega (arith, as_many_ranges c.args.pool.now c.args.layout.now.offsets c.args.layout.now.len c.in_ok-ranges.ranges c.args.body.now.ranges (rw c.as_slice.ensures at c.in_ok-ranges.ensures.of), c.requires.formed.1.ranges.0))

pub body_to_bytes-requires-clause-few_attributes : goal.body_to_bytes-requires-clause-few_attributes
body_to_bytes-requires-clause-few_attributes c =
    rw c.as_slice-tables.ensures
    (omega (arith, (tables_room c.tables.new.pool c.args.layout.now.offsets c.args.body.now.frames empty c.in_ok-tables.tables (c.in_ok-tables.ensures.written empty)).1, c.requires.formed.1.kept.0))

pub body_to_bytes-requires-clause-kept : goal.body_to_bytes-requires-clause-kept
body_to_bytes-requires-clause-kept c = AllByRecursion-map (IsFormedKept c.requires.formed.0) HasRoom c.args.body.now.kept (λ a h. h.2) c.requires.formed.1.kept.1

pub body_to_bytes-requires-clause-tables : goal.body_to_bytes-requires-clause-tables
body_to_bytes-requires-clause-tables c =
    rw c.as_slice-tables.ensures (tables_room c.tables.new.pool c.args.layout.now.offsets c.args.body.now.frames empty c.in_ok-tables.tables (c.in_ok-tables.ensures.written empty)).0

pub returns-clause-read_again : goal.returns-clause-read_again
returns-clause-read_again c = λ first.
    rw c.in_ok-tables.ensures.same
    (writes_body c.requires.formed.0 c.args.pool.now first c.args.body.now c.args.layout.now.len c.args.layout.now.offsets c.args.code.now c.in_ok-ranges.ranges c.in_ok-tables.tables c.in_ok-body_to_bytes.field-0 (record {
      formed = c.requires.formed.1;
      kept = c.requires.formed.2;
      few = c.entries-entries.ensures.sound.0.0;
      stand = c.requires.laid.stand;
      small = c.requires.laid.small;
      written = c.requires.code;
      whole = c.requires.len;
      ranges_of = rw c.as_slice.ensures at c.in_ok-ranges.ensures.of;
      fit = c.in_ok-ranges.ensures.fit;
      table = rw c.in_ok-tables.ensures.same at (c.in_ok-tables.ensures.written first);
      bytes = c.in_ok-body_to_bytes.ensures.bytes;
      stack = c.in_ok-body_to_bytes.ensures.sizes.0;
      locals = c.in_ok-body_to_bytes.ensures.sizes.1;
    })
    (omega (arith, (tables_room c.tables.new.pool c.args.layout.now.offsets c.args.body.now.frames empty c.in_ok-tables.tables (c.in_ok-tables.ensures.written empty)).1, c.requires.formed.1.kept.0))
    (rw (c.as_slice-ranges.ensures, c.as_slice-tables.ensures) at c.in_ok-body_to_bytes.ensures.written))
