use Rattle.wv_class.specs.declared.raw_class.Content.{Content}
use Rattle.wv_class.proofs.Exits.{fails, seen}
use Rattle.wv_class.proofs.AttributeReads.{length_stops, length_reads, taken_length}
use Rattle.wv_class.proofs.attribute.behind_length_at.Goals as goal

pub returns-in_err-len : goal.returns-in_err-len
returns-in_err-len c = fails c.args.bytes.now c.args.bytes.now (length_stops c.args.pool.now c.args.kind c.args.bytes.now) c.from_residual.result c.in_err-len.field-0.0 c.from_residual.ensures.1 c.in_err-len.ensures

pub content_at-requires : goal.content_at-requires
content_at-requires c = taken_length c.args.pool.now c.args.kind c.args.bytes.now c.in_ok-len.len c.in_ok-len.rest.now c.in_ok-len.ensures

pub returns : goal.returns
returns c = length_reads c.args.pool.now c.args.kind (seen {X = Content}) c.args.bytes.now c.in_ok-len.len c.in_ok-len.rest.now c.content_at.result c.in_ok-len.ensures c.content_at.ensures
