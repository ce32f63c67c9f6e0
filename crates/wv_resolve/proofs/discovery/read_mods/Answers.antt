use Rattle.std.proofs.Common.{take}
use Rattle.wv_base.specs.Folder.{IsPathBefore}
use Rattle.wv_mod.specs.Flaw.{IsModFault}
use Rattle.wv_resolve.specs.declared.discovery.Description.{Description}
use Rattle.wv_resolve.specs.Finding.{Describes}
use Rattle.wv_resolve.proofs.Flaws.{match-both, read-more}
use Rattle.wv_resolve.proofs.Lists.{all-before}
use Rattle.wv_resolve.proofs.discovery.read_mods.Goals as goal

pub loop-description-preserved : goal.loop-description-preserved
loop-description-preserved c =
    let ds = c.args.descriptions.now in
    let i = c.loop-description.description-index in
    let next = c.description-item.result in
    read-more c.args.side ds i next c.add.new.self c.loop-description-test.true c.description-item.is
    (c.in_ok-add.ensures c.args.side (take i ds) next c.loop-description.invariant
    (all-before (λ (d later : Description). IsPathBefore d.path later.path) ds i next c.requires c.loop-description-test.true c.description-item.is)
    (match-both c.read_mod-read.result (Describes c.args.side next) (IsModFault next.path next.bytes.now) c.read_mod-read.ensures.read c.read_mod-read.ensures.fault))
