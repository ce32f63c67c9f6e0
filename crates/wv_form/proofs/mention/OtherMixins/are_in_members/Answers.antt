use Rattle.std.proofs.Common.{sym, ◌∙◌}
use Rattle.wv_base.specs.declared.class_file.Member.{Member}
use Rattle.wv_form.specs.Mention.{names_other}
use Rattle.wv_form.specs.NamedClasses.{descriptor_classes}
use Rattle.wv_form.proofs.Passing.{some-here}
use Rattle.wv_form.proofs.mention.OtherMixins.are_in_members.Goals as goal

pub returns-then-branch : goal.returns-then-branch
returns-then-branch c =
    sym (some-here (names_other c.args.self.now.names.now c.args.self.now.own.now) (λ (member : Member). descriptor_classes member.descriptor) c.args.members.now c.loop-member.member-index c.member-item.result c.loop-member-test.true c.member-item.is
    (sym (rw c.units.ensures at c.in_ok-are_in_descriptor.ensures) ∙ c.if-branch.true))
