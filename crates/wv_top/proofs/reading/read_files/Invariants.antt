use Rattle.std.proofs.Common.{◌≡◌, map, string_bytes, take}
use Rattle.wv_top.specs.Reading.{WhereTold}
use Rattle.wv_top.proofs.ReadFolder.{Keeps}
use Rattle.wv_top.proofs.reading.read_files.Given as goal

-- no fault so far, the tree tells the same, the files so far have the paths so far, and they are read
abbrev pub invariant-loop-path : goal.invariant-loop-path
invariant-loop-path g l =
    (g.T.Tree.faults l.tree ≡ g.T.Tree.faults l.fn.tree) × (map (λ file. file.0) l.folder ≡ take l.path-index (map string_bytes l.paths))
    × (g.T.Tree.told l.tree ≡ g.T.Tree.told l.fn.tree) × (g.T.Tree.name l.tree ≡ g.T.Tree.name l.fn.tree)
    × WhereTold (g.T.Tree.told l.fn.tree) (g.T.Tree.name l.fn.tree) (Keeps (map string_bytes l.paths) l.path-index l.folder l.allowance)
