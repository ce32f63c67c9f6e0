use Rattle.wv_code.proofs.ContentPlaces.{attribute_table}
use Rattle.wv_code.proofs.reference.attribute_break.Goals as goal

pub returns-in_ok-table-in-Frames : goal.returns-in_ok-table-in-Frames
returns-in_ok-table-in-Frames c = λ before there.
    rw c.in-Frames.is
    (attribute_table c.args.pool.now c.args.first.now c.args.code.now before c.in-Frames.name c.args.base c.in-Frames.frames c.args.seen there c.lesser.ensures c.unless.ensures
    (rw c.as_slice.ensures at c.in_ok-table-in-Frames.ensures))
