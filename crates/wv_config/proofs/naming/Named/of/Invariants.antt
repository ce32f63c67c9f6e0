use Rattle.std.proofs.Common.{take}
use Rattle.wv_config.specs.Entries.{Holds}
use Rattle.wv_config.proofs.naming.Named.of.Given as goal

-- the table holds the entries so far
abbrev pub invariant-loop-entry : goal.invariant-loop-entry
invariant-loop-entry l = Holds (take l.entry-index l.entries) l.named
