use Rattle.std.proofs.Common.{take}
use Rattle.wv_classes.proofs.Reading.{AreRead}
use Rattle.wv_classes.proofs.folder_class.read_classes.Given as goal

-- the class files among the files so far
abbrev pub invariant-loop-path : goal.invariant-loop-path
invariant-loop-path l = AreRead l.folder l.fn.side (take l.path-index l.path-items) l.classes.items
