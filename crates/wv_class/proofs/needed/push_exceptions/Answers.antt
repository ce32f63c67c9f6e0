use Rattle.std.proofs.Common.{◌≡◌, List, sym, subst, ◌∙◌}
use Rattle.std.specs.Prelude.{OnOk}
use Rattle.wv_base.specs.declared.constant.Const.{Const}
use Rattle.wv_class.proofs.NeededLists.{exceptions_pushed}
use Rattle.wv_class.proofs.needed.push_exceptions.Goals as goal

pub returns : goal.returns
returns c =
    let pushed = exceptions_pushed c.args.out.now c.push.new.self c.args.names.now c.in_ok-text.field-0 (sym c.is_empty.ensures ∙ c.if-is_empty.false) c.in_ok-push.ensures.ok c.in_ok-text.ensures in
    subst (λ (cs : List Const). OnOk c.push_classes.result (c.push_classes.new.out ≡ cs)) pushed c.push_classes.ensures
