use Rattle.std.proofs.Common.{Vec, Global, sym, subst}
use Rattle.std.proofs.lemmas.Result.{err_from_is_err_and}
use Rattle.wv_mod.specs.declared.mod_info.ModInfo.{ModInfo}
use Rattle.wv_resolve.specs.Finding.{AreDescriptions}
use Rattle.wv_resolve.proofs.Discovering.{are-mods, lacking-fault, flaw-fault, mods-loaded, mods-kept, mods-refused}
use Rattle.wv_resolve.proofs.discovery.load_mods.Goals as goal

pub returns-in_err-descriptions-clause-fault : goal.returns-in_err-descriptions-clause-fault
returns-in_err-descriptions-clause-fault c =
    let p = err_from_is_err_and c.from_residual.result c.from_residual.ensures.1 in
    rw (p.1, p.2)
    (lacking-fault c.args.builtin.now c.args.folder.now c.args.side c.in_err-descriptions.field-0.0 c.in_err-descriptions.ensures.missing)

pub returns-in_err-mods-clause-fault : goal.returns-in_err-mods-clause-fault
returns-in_err-mods-clause-fault c =
    let p = err_from_is_err_and c.from_residual-in_err-mods.result c.from_residual-in_err-mods.ensures.1 in
    let found = subst (AreDescriptions c.args.folder.now) (sym c.as_slice.ensures.value) c.in_ok-descriptions.ensures.found in
    rw (p.1, p.2)
    (flaw-fault c.args.builtin.now c.args.folder.now c.args.side c.as_slice.result.now c.in_err-mods.field-0.0 found c.in_err-mods.ensures.fault)

pub returns-clause-loaded : goal.returns-clause-loaded
returns-clause-loaded c =
    let found = subst (AreDescriptions c.args.folder.now) (sym c.as_slice.ensures.value) c.in_ok-descriptions.ensures.found in
    let are = are-mods c.args.folder.now c.args.side c.as_slice.result.now c.in_ok-mods.mods.items found c.in_ok-mods.ensures.read in
    mods-loaded c.args.builtin.now c.args.folder.now c.args.side (λ (v : Vec ModInfo Global). v.items) c.in_ok-mods.mods.items are c.resolve.result c.resolve.ensures.resolved

pub returns-clause-kept : goal.returns-clause-kept
returns-clause-kept c =
    let found = subst (AreDescriptions c.args.folder.now) (sym c.as_slice.ensures.value) c.in_ok-descriptions.ensures.found in
    let are = are-mods c.args.folder.now c.args.side c.as_slice.result.now c.in_ok-mods.mods.items found c.in_ok-mods.ensures.read in
    mods-kept c.args.builtin.now c.args.folder.now c.args.side (λ (v : Vec ModInfo Global). v.items) c.in_ok-mods.mods.items are c.resolve.result c.resolve.ensures.resolved

pub returns-clause-fault : goal.returns-clause-fault
returns-clause-fault c =
    let found = subst (AreDescriptions c.args.folder.now) (sym c.as_slice.ensures.value) c.in_ok-descriptions.ensures.found in
    let are = are-mods c.args.folder.now c.args.side c.as_slice.result.now c.in_ok-mods.mods.items found c.in_ok-mods.ensures.read in
    mods-refused c.args.builtin.now c.args.folder.now c.args.side (λ (v : Vec ModInfo Global). v.items) c.in_ok-mods.mods.items are c.resolve.result c.resolve.ensures.fault
