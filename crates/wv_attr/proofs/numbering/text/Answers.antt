use Rattle.std.proofs.Common.{ℕ, List, Some, ap, ◌∙◌}
use Rattle.wv_base.specs.declared.constant.Const.TheVariants as constants
use Rattle.wv_pool.proofs.Behind.{text_is}
use Rattle.wv_attr.proofs.PoolGrowth.{found_map}
use Rattle.wv_attr.proofs.numbering.text.Goals as goal

pub returns-clause-names : goal.returns-clause-names
returns-clause-names c =
    found_map c.constant.result (λ n h. text_is c.constant.new.pool n c.args.text.now (h ∙ ap (λ (x : List ℕ). Some (constants.Utf8 x)) c.in_ok-copy.ensures)) c.constant.ensures.names
