use Rattle.std.proofs.Common.{◌≡◌, length, take}
use Rattle.std.specs.List.{AllZip}
use Rattle.wv_weave.specs.Outgoing.{IsFileFrom}
use Rattle.wv_weave.proofs.outgoing.written_files.Given as goal

-- the files of those so far
abbrev pub invariant-loop-one : goal.invariant-loop-one
invariant-loop-one l = record {
  so_far : l.yielded ≡ take (length l.yielded) l.fn.outgoing.items;
  files : AllZip (IsFileFrom l.folder) l.yielded l.files;
}
