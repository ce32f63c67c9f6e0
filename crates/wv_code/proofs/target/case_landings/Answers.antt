use Rattle.std.proofs.Common.{get_or, pos, SFits, rules}
use Rattle.std.proofs.lemmas.Int.{to_z-of_z}
use Rattle.std.specs.Int.{w32}
use Rattle.wv_insn.specs.declared.raw.RawCase.{RawCase}
use Rattle.wv_code.proofs.Landings.{cases_land_on}
use Rattle.wv_code.proofs.target.case_landings.Goals as goal

pub loop-raw-preserved : goal.loop-raw-preserved
loop-raw-preserved c =
    let none : RawCase = record { key = pos 0; offset = pos 0 } in
    let raw : RawCase = get_or c.args.raws.now c.loop-raw.raw-index none in
    let key_fits : SFits w32 raw.key = search rules in
    let fits : SFits w32 raw.offset = search rules in
    rw (c.in_ok-push.ensures.ok, to_z-of_z w32 raw.key key_fits)
    (cases_land_on c.args.offsets.now c.args.at c.args.raws.now c.loop-raw.raw-index none c.loop-raw.found c.landing.result c.loop-raw-test.true c.loop-raw.invariant (rw (to_z-of_z w32 raw.offset fits) at c.landing.ensures))
