use Rattle.std.proofs.Common.{take}
use Rattle.wv_resolve.proofs.Loaded.{AreLoadedOf}
use Rattle.wv_resolve.proofs.loaded_folder.loaded_folders.Given as goal

-- of the names so far, those that are loaded are kept
abbrev pub invariant-loop-name : goal.invariant-loop-name
invariant-loop-name l = AreLoadedOf l.folder l.side (take l.name-index l.name-items) l.loaded.items
