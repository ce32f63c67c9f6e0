use Rattle.wv_config.specs.Entries.{AreEntriesTo}
use Rattle.wv_config.proofs.naming.entries.Given as goal

-- the entries are those of the mods so far
abbrev pub invariant-loop-mod_place : goal.invariant-loop-mod_place
invariant-loop-mod_place l = AreEntriesTo l.side l.mods l.mod_place 0 l.entries.items
