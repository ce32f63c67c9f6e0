use Rattle.std.proofs.Common.{take}
use Rattle.wv_resolve.specs.Finding.{AreModFolders, texts_at}
use Rattle.wv_resolve.proofs.discovery.mod_folders.Given as goal

-- the names so far are those of the folders of the files so far
abbrev pub invariant-loop-path : goal.invariant-loop-path
invariant-loop-path l = AreModFolders (take l.path-index l.path-items) (texts_at l.names.items)
