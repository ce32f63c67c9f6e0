use Rattle.std.proofs.Common.{◌≡◌, take}
use Rattle.wv_tree.specs.Tree.{path_bytes, paths_of}
use Rattle.wv_tree.proofs.sure_tree.paths.Given as goal

abbrev pub invariant-loop-file : goal.invariant-loop-file
invariant-loop-file l = path_bytes l.paths ≡ paths_of (take l.file-index l.files)
