use Rattle.std.proofs.Common.{length, refl, subst, sym}
use Rattle.std.proofs.lemmas.Result.{err_from_is_err_and}
use Rattle.wv_config.specs.declared.loaded.Configs.{Configs}
use Rattle.wv_config.specs.Entries.{AreEntriesTo}
use Rattle.wv_config.proofs.Outcome.{configs-fault, configs-loaded, loaded-kept}
use Rattle.wv_config.proofs.loading.load_configs.Goals as goal

pub returns-in_err-configs-clause-fault : goal.returns-in_err-configs-clause-fault
returns-in_err-configs-clause-fault c =
    let p = err_from_is_err_and c.from_residual-in_err-configs.result c.from_residual-in_err-configs.ensures.1 in
    let all = subst (AreEntriesTo c.args.side c.args.mods.now (length c.args.mods.now) 0) (sym c.as_slice.ensures.value) c.in_ok-entries.ensures in
    rw (p.1, p.2)
    (configs-fault c.args.folder.now c.args.side c.args.mods.now c.as_slice.result.now all c.in_err-configs.field-0.0 c.in_err-configs.ensures.fault)

pub returns-clause-loaded : goal.returns-clause-loaded
returns-clause-loaded c =
    let all = subst (AreEntriesTo c.args.side c.args.mods.now (length c.args.mods.now) 0) (sym c.as_slice.ensures.value) c.in_ok-entries.ensures in
    configs-loaded c.args.folder.now c.args.side c.args.mods.now c.as_slice.result.now all c.in_ok-configs.configs (record { used = c.sort_used.new.used; others = c.in_ok-configs.configs.others }) c.in_ok-configs.ensures.read c.sort_used.ensures.same c.in_ok-sort_used.ensures.ordered refl

pub returns-clause-kept : goal.returns-clause-kept
returns-clause-kept c =
    let all = subst (AreEntriesTo c.args.side c.args.mods.now (length c.args.mods.now) 0) (sym c.as_slice.ensures.value) c.in_ok-entries.ensures in
    let sorted : Configs = record { used = c.sort_used.new.used; others = c.in_ok-configs.configs.others } in
    loaded-kept c.args.folder.now c.args.side c.args.mods.now sorted
    (configs-loaded c.args.folder.now c.args.side c.args.mods.now c.as_slice.result.now all c.in_ok-configs.configs sorted c.in_ok-configs.ensures.read c.sort_used.ensures.same c.in_ok-sort_used.ensures.ordered refl)
