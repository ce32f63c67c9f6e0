use Rattle.std.proofs.Common.{arith}
use Rattle.std.specs.List.{flat_map}
use Rattle.wv_pool.specs.Numbers.{Named}
use Rattle.wv_code.specs.BodyConstants.{frame_constants, table_names}
use Rattle.wv_code.proofs.Written.{all_front}
use Rattle.wv_code.proofs.OffsetFrames.{one_table}
use Rattle.wv_code.proofs.offset_frame.table.Goals as goal

pub frame_content-requires-clause-named : goal.frame_content-requires-clause-named
frame_content-requires-clause-named c = all_front (Named c.args.pool.now) (flat_map frame_constants c.args.body.now.frames) (table_names c.args.body.now.frames) c.requires.named

pub returns-clause-written : goal.returns-clause-written
returns-clause-written c = λ first.
    one_table c.args.pool.now c.frame_content.new.pool c.args.layout.now.offsets c.args.body.now.frames first (record { name = c.number_of-name.result; content = c.in_ok-content.content })
    c.in_ok-content.ensures.same c.requires.some (omega arith) (rw c.in_ok-text.ensures at c.number_of-name.ensures.names) (omega arith) (c.in_ok-content.ensures.written first)
