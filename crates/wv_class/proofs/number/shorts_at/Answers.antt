use Rattle.std.proofs.Common.{ℕ, List}
use Rattle.wv_class.specs.Numbers.{SpellsShort}
use Rattle.wv_class.proofs.Exits.{fails, seen}
use Rattle.wv_class.proofs.Shorts.{short_grammar}
use Rattle.wv_class.proofs.Times.{count_stops, table_reads}
use Rattle.wv_class.proofs.number.shorts_at.Goals as goal

pub returns-in_err-count : goal.returns-in_err-count
returns-in_err-count c = fails c.args.bytes.now c.args.bytes.now (count_stops SpellsShort short_grammar c.args.bytes.now) c.from_residual.result c.in_err-count.field-0.0 c.from_residual.ensures.1 c.in_err-count.ensures

pub returns : goal.returns
returns c = table_reads SpellsShort (seen {X = List ℕ}) c.args.bytes.now c.in_ok-count.count c.in_ok-count.rest.now c.shorts_in.result c.in_ok-count.ensures c.shorts_in.ensures
