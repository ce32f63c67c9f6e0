use Rattle.std.proofs.Common.{List, length, ap, sym, refl, ◌∙◌}
use Rattle.std.proofs.lemmas.Result.{err_from_is_err_and}
use Rattle.wv_base.specs.declared.broken.Broken.{Broken}
use Rattle.wv_front.specs.declared.fault.WeaveFault.{WeaveFault}
use Rattle.wv_weave.specs.Overwrites.{IsFirstLacking}
use Rattle.wv_weave.specs.Stages.{IsFirstBroken}
use Rattle.wv_weave.proofs.FrontFaults.{fault-weaker}
use Rattle.wv_weave.proofs.LastStage.{last-broken, none-broken}
use Rattle.wv_weave.proofs.WeaveClauses.{all-placed, ascending, edits-long, is-woven, means-folder, writable}
use Rattle.wv_weave.proofs.weaver.weave.Goals as goal

pub overwritings-requires-clause-placed : goal.overwritings-requires-clause-placed
overwritings-requires-clause-placed c =
    let front = c.in_ok-configs.field-0 in
    let read = c.in_ok-configs.ensures.read in
    rw (c.as_slice.ensures.value, c.as_slice-2.ensures.value)
    (all-placed c.args.folder.now c.args.side front.configs front.classes.items front.mixins.items read.has_mixins read.marked c.in_ok-configs.ensures.formed)

pub returns-in_err-edits-clause-broken : goal.returns-in_err-edits-clause-broken
returns-in_err-edits-clause-broken c =
    let front = c.in_ok-configs.field-0 in
    let read = c.in_ok-configs.ensures.read in
    let lacking = rw (c.as_slice.ensures.value, c.as_slice-2.ensures.value) at c.in_err-edits.ensures.lacking in
    let p = err_from_is_err_and c.from_residual-in_err-edits.result c.from_residual-in_err-edits.ensures.1 in
    rw (p.1, p.2)
    (fault-weaker (IsFirstLacking front.classes.items front.mixins.items) (IsFirstBroken c.args.folder.now c.args.side)
    (λ broken first. last-broken c.args.folder.now c.args.side broken c.in_ok-configs.ensures.kept (front.configs, front.classes.items, front.mixins.items, read.has_mixins, first)) c.in_err-edits.field-0.0 lacking)

pub sorted_outgoing-requires : goal.sorted_outgoing-requires
sorted_outgoing-requires c =
    let front = c.in_ok-configs.field-0 in
    edits-long front.classes.items front.mixins.items c.in_ok-edits.edits.items (rw (c.as_slice.ensures.value, c.as_slice-2.ensures.value) at c.in_ok-edits.ensures.edits)

pub written_files-requires-clause-ordered : goal.written_files-requires-clause-ordered
written_files-requires-clause-ordered c =
    let front = c.in_ok-configs.field-0 in
    let read = c.in_ok-configs.ensures.read in
    let sorted = c.in_ok-outgoing.ensures in
    ascending c.args.folder.now c.args.side front.configs front.classes.items front.mixins.items read.has_mixins read.marked c.in_ok-configs.ensures.formed
    c.in_ok-edits.edits.items (rw (c.as_slice.ensures.value, c.as_slice-2.ensures.value) at c.in_ok-edits.ensures.edits) sorted.0 c.in_ok-outgoing.outgoing.items sorted.1 sorted.2

pub written_files-requires-clause-writable : goal.written_files-requires-clause-writable
written_files-requires-clause-writable c =
    let front = c.in_ok-configs.field-0 in
    let read = c.in_ok-configs.ensures.read in
    let sorted = c.in_ok-outgoing.ensures in
    writable c.args.folder.now c.args.side front.configs front.classes.items front.mixins.items read.has_mixins read.marked c.in_ok-configs.ensures.formed
    c.in_ok-edits.edits.items (rw (c.as_slice.ensures.value, c.as_slice-2.ensures.value) at c.in_ok-edits.ensures.edits) sorted.0 c.in_ok-outgoing.outgoing.items sorted.1 sorted.2

pub returns-clause-kept : goal.returns-clause-kept
returns-clause-kept c =
    let front = c.in_ok-configs.field-0 in
    let read = c.in_ok-configs.ensures.read in
    none-broken c.args.folder.now c.args.side c.in_ok-configs.ensures.kept
    (front.configs, front.classes.items, front.mixins.items, read.has_mixins, rw (c.as_slice.ensures.value, c.as_slice-2.ensures.value) at c.in_ok-edits.ensures.found)

pub returns-clause-woven : goal.returns-clause-woven
returns-clause-woven c =
    let front = c.in_ok-configs.field-0 in
    let read = c.in_ok-configs.ensures.read in
    let sorted = c.in_ok-outgoing.ensures in
    is-woven c.args.folder.now c.args.side front.configs front.classes.items front.mixins.items read.has_mixins read.marked c.in_ok-configs.ensures.formed
    c.in_ok-edits.edits.items (rw (c.as_slice.ensures.value, c.as_slice-2.ensures.value) at c.in_ok-edits.ensures.edits) sorted.0 c.in_ok-outgoing.outgoing.items sorted.1 sorted.2
    (record { files = c.in_ok-written_files.field-0; edited = c.edited_count-edited.result; mixins = c.len.result; hooks = 0 }) c.in_ok-written_files.ensures
    (rw c.as_slice-3.ensures.value at c.edited_count-edited.ensures) (c.len.ensures ∙ sym c.as_slice-2.ensures.len ∙ ap length c.as_slice-2.ensures.value) refl

pub returns-clause-means : goal.returns-clause-means
returns-clause-means c =
    let front = c.in_ok-configs.field-0 in
    let read = c.in_ok-configs.ensures.read in
    let sorted = c.in_ok-outgoing.ensures in
    means-folder c.args.folder.now c.args.side front.configs front.classes.items front.mixins.items read.has_mixins read.marked c.in_ok-configs.ensures.formed
    c.in_ok-edits.edits.items (rw (c.as_slice.ensures.value, c.as_slice-2.ensures.value) at c.in_ok-edits.ensures.edits) sorted.0 c.in_ok-outgoing.outgoing.items sorted.1 sorted.2
    (record { files = c.in_ok-written_files.field-0; edited = c.edited_count-edited.result; mixins = c.len.result; hooks = 0 }) c.in_ok-written_files.ensures
