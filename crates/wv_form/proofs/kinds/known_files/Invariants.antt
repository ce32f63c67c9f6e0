use Rattle.std.proofs.Common.{take}
use Rattle.wv_form.specs.Kinds.{AreKnown}
use Rattle.wv_form.proofs.kinds.known_files.Given as goal

-- the class files so far are known
abbrev pub invariant-loop-file : goal.invariant-loop-file
invariant-loop-file l = AreKnown l.folder (take l.file-index l.classes) l.known.items
