use Rattle.std.proofs.Common.{◌≡◌, false, take, flat_map}
use Rattle.std.specs.List.{list_any}
use Rattle.wv_form.specs.Mention.{names_other}
use Rattle.wv_form.specs.NamedClasses.{entry_classes}
use Rattle.wv_form.proofs.mention.OtherMixins.are_in_pool.Given as goal

-- the entries so far name none
abbrev pub invariant-loop-entry : goal.invariant-loop-entry
invariant-loop-entry l = list_any (names_other l.self.names.now l.self.own.now) (flat_map (entry_classes l.pool) (take l.entry-index l.pool)) ≡ false
