use Rattle.std.proofs.Common.{rules}
use Rattle.serde_json.specs.View.{view}
use Rattle.wv_config.proofs.FirstWrong.{wrong-require_annotations}
use Rattle.wv_config.proofs.config.Config.of.Goals as goal

pub returns-in_err-require_annotations-clause-wrong : goal.returns-in_err-require_annotations-clause-wrong
returns-in_err-require_annotations-clause-wrong c =
    let after = wrong-require_annotations (view c.args.value.now) _ _ _ _ _ _ _ _ c.in_err-require_annotations.field-0.0 c.in_ok-text_at.ensures.read c.in_ok-texts_at.ensures.read c.in_ok-texts_at-2.ensures.read c.in_ok-texts_at-3.ensures.read c.in_ok-refmap.ensures.read c.in_ok-priority.ensures.read c.in_ok-mixin_priority.ensures.read c.in_ok-default_require.ensures.read c.in_err-require_annotations.ensures.wrong in
    search (rules, after)
