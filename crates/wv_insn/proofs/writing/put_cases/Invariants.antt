use Rattle.std.proofs.Common.{◌≡◌, ◌++◌, take}
use Rattle.std.specs.List.{flat_map, AllByRecursion}
use Rattle.wv_insn.specs.Spelling.{case, IsCase}
use Rattle.wv_insn.proofs.writing.put_cases.Given as goal

abbrev pub invariant-loop-case : goal.invariant-loop-case
invariant-loop-case l = record {
  spelled : l.out ≡ l.initial.out ++ flat_map case (take l.case-index l.cases);
  typed : AllByRecursion IsCase (take l.case-index l.cases);
}
