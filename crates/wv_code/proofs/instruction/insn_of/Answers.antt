use Rattle.std.proofs.Common.{◌≡◌, ◌+◌, ◌*◌, Some, SFits, rules}
use Rattle.std.specs.Prelude.{slice_get}
use Rattle.std.specs.Int.{w32}
use Rattle.std.proofs.lemmas.Int.{to_z-of_z}
use Rattle.wv_insn.specs.Spelling.{padding}
use Rattle.wv_code.specs.Breaks.{load, branch, table_other, table_target, lookup_other, lookup_target, reference, interface, site, class, multi}
use Rattle.wv_code.proofs.Operands.{ok_map, interface_means}
use Rattle.wv_code.proofs.Switches.{table_is}
use Rattle.wv_code.proofs.instruction.insn_of.Goals as goal

pub loaded-requires : goal.loaded-requires
loaded-requires c = λ none. c.requires.sound 1 (rw c.in-Load.is (load none))

pub landing-requires-clause-lands : goal.landing-requires-clause-lands
landing-requires-clause-lands c =
    let fits : SFits w32 c.in-Branch.offset = search rules in
    rw (to_z-of_z w32 c.in-Branch.offset fits) (λ none. c.requires.sound 1 (rw c.in-Branch.is (branch none)))

pub landing-requires-in-Table-clause-lands : goal.landing-requires-in-Table-clause-lands
landing-requires-in-Table-clause-lands c =
    let fits : SFits w32 c.in-Table.other = search rules in
    rw (to_z-of_z w32 c.in-Table.other fits) (λ none. c.requires.sound (1 + padding c.args.at) (rw c.in-Table.is (table_other none)))

pub landings-requires-clause-land : goal.landings-requires-clause-land
landings-requires-clause-land c = λ k distance e none.
    let there : slice_get c.in-Table.distances k ≡ Some distance = rw c.as_slice.ensures at e in
    c.requires.sound (1 + padding c.args.at + 12 + 4 * k) (rw c.in-Table.is (table_target k distance there none))

pub landing-requires-in-Lookup-clause-lands : goal.landing-requires-in-Lookup-clause-lands
landing-requires-in-Lookup-clause-lands c =
    let fits : SFits w32 c.in-Lookup.other = search rules in
    rw (to_z-of_z w32 c.in-Lookup.other fits) (λ none. c.requires.sound (1 + padding c.args.at) (rw c.in-Lookup.is (lookup_other none)))

pub case_landings-requires-clause-land : goal.case_landings-requires-clause-land
case_landings-requires-clause-land c = λ k case e none.
    let there : slice_get c.in-Lookup.cases k ≡ Some case = rw c.as_slice-in-Lookup.ensures at e in
    c.requires.sound (1 + padding c.args.at + 12 + 8 * k) (rw c.in-Lookup.is (lookup_target k case there none))

pub member_insn-requires : goal.member_insn-requires
member_insn-requires c = λ none. c.requires.sound 1 (rw c.in-Reference.is (reference none))

pub interface_method-requires : goal.interface_method-requires
interface_method-requires c = λ none. c.requires.sound 1 (rw c.in-Interface.is (interface none))

pub site_insn-requires : goal.site_insn-requires
site_insn-requires c = λ none. c.requires.sound 1 (rw c.in-Dynamic.is (site none))

pub class_named-requires : goal.class_named-requires
class_named-requires c = λ none. c.requires.sound 1 (rw c.in-Class.is (class none))

pub class_named-requires-in-MultiArray : goal.class_named-requires-in-MultiArray
class_named-requires-in-MultiArray c = λ none. c.requires.sound 1 (rw c.in-MultiArray.is (multi none))

pub returns-in_ok-landings-in-Table : goal.returns-in_ok-landings-in-Table
returns-in_ok-landings-in-Table c =
    let low_fits : SFits w32 c.in-Table.low = search rules in
    let other_fits : SFits w32 c.in-Table.other = search rules in
    rw (c.in-Table.is, to_z-of_z w32 c.in-Table.low low_fits)
    (table_is c.args.pool.now c.args.offsets.now c.args.at c.in-Table.low c.in-Table.high c.in-Table.other c.in-Table.distances c.landing-in-Table.result c.in_ok-landings-in-Table.field-0 (rw c.in-Table.is at c.requires.spelled)
    (rw c.in-Table.is at c.requires.sound) (rw (to_z-of_z w32 c.in-Table.other other_fits) at c.landing-in-Table.ensures) (rw c.as_slice.ensures at c.in_ok-landings-in-Table.ensures))

pub returns-in-Reference : goal.returns-in-Reference
returns-in-Reference c = rw c.in-Reference.is (ok_map _ _ c.member_insn.result (λ i means. means c.args.offsets.now c.args.at) c.member_insn.ensures)

pub returns-in_ok-interface_method-in-Interface : goal.returns-in_ok-interface_method-in-Interface
returns-in_ok-interface_method-in-Interface c =
    rw (c.in-Interface.is, c.reference.ensures)
    (interface_means c.args.pool.now c.args.offsets.now c.args.at c.in-Interface.number c.in-Interface.count c.in-Interface.zero c.in_ok-interface_method-in-Interface.field-0 c.in_ok-interface_method-in-Interface.ensures.named
    c.in_ok-interface_method-in-Interface.ensures.method (rw c.in-Interface.is at c.requires.sound))

pub returns-in-Dynamic : goal.returns-in-Dynamic
returns-in-Dynamic c = rw c.in-Dynamic.is (ok_map _ _ c.site_insn.result (λ i means. means c.args.offsets.now c.args.at) c.site_insn.ensures)
