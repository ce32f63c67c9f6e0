use Rattle.std.proofs.Common.{sym, ◌∙◌}
use Rattle.serde_json.specs.View.{view}
use Rattle.wv_config.proofs.Tables.{no_tables}
use Rattle.wv_config.proofs.refmap.read_tables.Goals as goal

pub returns-else-is_some-clause-none : goal.returns-else-is_some-clause-none
returns-else-is_some-clause-none c = no_tables c.args.bytes.now (view c.in-Ok.file) (view c.in-Some.mappings.now) c.in_ok-tables.tables c.in-Ok.ensures.found (sym c.in-Some.ensures) c.in_ok-tables.ensures (sym c.is_some.ensures ∙ c.if-is_some.false)
