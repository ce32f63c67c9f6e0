use Rattle.std.proofs.Common.{ap, ◌∙◌}
use Rattle.serde_json.specs.View.{view}
use Rattle.wv_base.specs.declared.rule.Rule.TheVariants.{ConfigBad}
use Rattle.wv_config.specs.Fault.{broken_at}
use Rattle.wv_config.specs.Config.{wrong_key, plugin}
use Rattle.wv_config.proofs.config.read_config.Goals as goal

pub returns-in-Err-Wrong-of-clause-broken : goal.returns-in-Err-Wrong-of-clause-broken
returns-in-Err-Wrong-of-clause-broken c =
    wrong_key (view c.in-Ok.value) c.in-Err-Wrong-of.key c.in-Ok.ensures.found (rw c.in-Err-Wrong-of.field-0-is at c.in-Err-Wrong-of.ensures.wrong)
    (c.in_ok-config_bad-in-Err-Wrong-of.ensures ∙ ap (broken_at ConfigBad c.args.path.now) c.name.ensures)

pub returns-then-has_field-clause-broken : goal.returns-then-has_field-clause-broken
returns-then-has_field-clause-broken c =
    plugin (view c.in-Ok.value) c.in-Ok-of.config c.in-Ok.ensures.found c.in-Ok-of.ensures.read (c.has_field.ensures.0 c.if-has_field.true)
    (rw c.as_str.ensures at c.in_ok-broken.ensures)
