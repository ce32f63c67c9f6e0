use Rattle.std.proofs.Common.{◌≡◌, false, take, flat_map}
use Rattle.std.specs.List.{list_any}
use Rattle.wv_form.specs.Mention.{names_other}
use Rattle.wv_form.specs.NamedClasses.{descriptor_classes}
use Rattle.wv_form.proofs.mention.OtherMixins.are_in_members.Given as goal

-- the members so far name none
abbrev pub invariant-loop-member : goal.invariant-loop-member
invariant-loop-member l = list_any (names_other l.self.names.now l.self.own.now) (flat_map (λ member. descriptor_classes member.descriptor) (take l.member-index l.members)) ≡ false
