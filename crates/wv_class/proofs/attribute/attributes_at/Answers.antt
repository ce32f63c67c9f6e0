use Rattle.std.proofs.Common.{List}
use Rattle.wv_class.specs.declared.raw_class.RawAttribute.{RawAttribute}
use Rattle.wv_class.specs.Layout.{SpellsAttribute}
use Rattle.wv_class.proofs.Exits.{fails, seen}
use Rattle.wv_class.proofs.Times.{count_stops, table_reads}
use Rattle.wv_class.proofs.AttributeReads.{attribute_grammar}
use Rattle.wv_class.proofs.attribute.attributes_at.Goals as goal

pub returns-in_err-count : goal.returns-in_err-count
returns-in_err-count c = fails c.args.bytes.now c.args.bytes.now (count_stops (SpellsAttribute c.args.pool.now c.args.place) (attribute_grammar c.args.pool.now c.args.place) c.args.bytes.now) c.from_residual.result c.in_err-count.field-0.0 c.from_residual.ensures.1 c.in_err-count.ensures

pub returns : goal.returns
returns c = table_reads (SpellsAttribute c.args.pool.now c.args.place) (seen {X = List RawAttribute}) c.args.bytes.now c.in_ok-count.count c.in_ok-count.rest.now c.attributes_in.result c.in_ok-count.ensures c.attributes_in.ensures
