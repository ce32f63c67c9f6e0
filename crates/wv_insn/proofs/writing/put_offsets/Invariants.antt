use Rattle.std.proofs.Common.{◌≡◌, ◌++◌, take, FitsSigned}
use Rattle.std.specs.List.{flat_map, AllByRecursion}
use Rattle.std.specs.Int.{w32}
use Rattle.wv_insn.specs.Spelling.{signed}
use Rattle.wv_insn.proofs.writing.put_offsets.Given as goal

abbrev pub invariant-loop-offset : goal.invariant-loop-offset
invariant-loop-offset l = record {
  spelled : l.out ≡ l.initial.out ++ flat_map (signed w32) (take l.offset-index l.offsets);
  typed : AllByRecursion (FitsSigned w32) (take l.offset-index l.offsets);
}
