use Rattle.std.proofs.Common.{take}
use Rattle.wv_resolve.specs.Finding.{IsReadingOf}
use Rattle.wv_resolve.proofs.discovery.read_mods.Given as goal

-- the descriptions so far are read
abbrev pub invariant-loop-description : goal.invariant-loop-description
invariant-loop-description l = IsReadingOf l.side (take l.description-index l.descriptions) l.reading
