use Rattle.std.proofs.Common.{sym, ◌∙◌}
use Rattle.wv_form.specs.Mention.{names_other}
use Rattle.wv_form.specs.NamedClasses.{entry_classes}
use Rattle.wv_form.proofs.Passing.{some-here}
use Rattle.wv_form.proofs.mention.OtherMixins.are_in_pool.Goals as goal

pub returns-then-branch : goal.returns-then-branch
returns-then-branch c =
    sym (some-here (names_other c.args.self.now.names.now c.args.self.now.own.now) (entry_classes c.args.pool.now) c.args.pool.now c.loop-entry.entry-index c.entry-item.result c.loop-entry-test.true c.entry-item.is
    (sym c.in_ok-are_in_entry.ensures ∙ c.if-branch.true))
