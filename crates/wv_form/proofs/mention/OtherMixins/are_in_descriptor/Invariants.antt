use Rattle.std.proofs.Common.{◌≡◌, false, take, flat_map}
use Rattle.std.specs.List.{list_any}
use Rattle.wv_form.specs.Mention.{names_other}
use Rattle.wv_form.specs.NamedClasses.{behind_l}
use Rattle.wv_form.proofs.mention.OtherMixins.are_in_descriptor.Given as goal

-- the parts so far name none
abbrev pub invariant-loop-part : goal.invariant-loop-part
invariant-loop-part l = list_any (names_other l.self.names.now l.self.own.now) (flat_map (λ part. behind_l part.now) (take l.part-index l.part-items)) ≡ false
