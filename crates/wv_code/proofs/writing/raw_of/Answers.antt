use Rattle.std.proofs.Common.{false, SFits, refl, rules}
use Rattle.std.proofs.lemmas.Int.{to_z-of_z}
use Rattle.std.specs.Int.{w32}
use Rattle.wv_code.proofs.Leading.{table_means, lookup_means, load_written, member_means, least_names}
use Rattle.wv_code.proofs.writing.raw_of.Goals as goal
use Rattle.wv_code.proofs.writing.raw_of.Goals.{in-Plain, in-Push, in-Load, in-Local, in-Inc, in-Branch, in-Table+in_ok-table-in-Table, in-Lookup+in_ok-lookup-in-Lookup, in-Reference, in-Site, in-Class, in-NewArray, in-MultiArray}

pub reference-requires : goal.reference-requires
reference-requires c = rw c.in-Reference.is at c.requires.shaped

pub returns-clause-written : goal.returns-clause-written
returns-clause-written c =
    let names = least_names c.args.pool.now c.in_ok-number.number c.args.insn.now c.in_ok-number.ensures in
    elim c.match-insn.branch [
      | in-Plain w ↦ rw (w.result-is, w.in-Plain.is) (false, tt, refl)
      | in-Push w ↦ rw (w.result-is, w.in-Push.is) (false, tt, (refl, search rules))
      | in-Load w ↦ rw (w.result-is, w.load.ensures.is, w.in-Load.is) (load_written c.args.pool.now c.args.offsets.now c.args.at w.in-Load.op c.in_ok-number.number w.in-Load.value (rw w.in-Load.is at c.in_ok-number.ensures).0)
      | in-Local w ↦ rw (w.result-is, w.in-Local.is) (false, tt, (refl, refl, refl))
      | in-Inc w ↦ rw (w.result-is, w.in-Inc.is) (false, tt, (refl, search rules, refl))
      | in-Branch w ↦ rw (w.result-is, w.in-Branch.is) (false, tt, w.branch-op.ensures.means c.args.pool.now)
      | in-Table+in_ok-table-in-Table w ↦ rw (w.result-is, w.in-Table.is)
          (let fits : SFits w32 w.in-Table.low = search rules in
          (false, tt, table_means c.args.pool.now c.args.offsets.now c.args.at w.in_ok-table-in-Table.field-0 _ w.in-Table.low w.in-Table.other w.as_slice.result.now w.in-Table.targets (to_z-of_z w32 w.in-Table.low fits) w.as_slice.ensures (w.in_ok-table-in-Table.ensures.means c.args.pool.now)))
      | in-Lookup+in_ok-lookup-in-Lookup w ↦ rw (w.result-is, w.in-Lookup.is)
          (false, tt, lookup_means c.args.pool.now c.args.offsets.now c.args.at w.in_ok-lookup-in-Lookup.field-0 w.in-Lookup.other w.as_slice-in-Lookup.result.now w.in-Lookup.cases w.as_slice-in-Lookup.ensures (w.in_ok-lookup-in-Lookup.ensures.means c.args.pool.now))
      | in-Reference w ↦
          rw (w.result-is, w.in-Reference.is) (
            false,
            tt,
            member_means c.args.pool.now c.args.offsets.now c.args.at w.in-Reference.op c.in_ok-number.number w.in-Reference.owner w.in-Reference.name w.in-Reference.descriptor w.in-Reference.interface w.reference.result w.reference.ensures.is (rw w.in-Reference.is at c.requires.shaped)
                (rw w.in-Reference.is at names),
          )
      | in-Site w ↦ rw (w.result-is, w.in-Site.is) (false, tt, rw w.in-Site.is at names)
      | in-Class w ↦ rw (w.result-is, w.in-Class.is) (false, tt, (refl, rw w.in-Class.is at names))
      | in-NewArray w ↦ rw (w.result-is, w.in-NewArray.is) (false, tt, refl)
      | in-MultiArray w ↦ rw (w.result-is, w.in-MultiArray.is) (false, tt, (rw w.in-MultiArray.is at names, refl))
    ]
