use Rattle.std.proofs.Common.{◌≡◌, List, Some}
use Rattle.std.specs.List.{slice_get}
use Rattle.wv_mod.specs.declared.mod_info.ModInfo.{ModInfo}
use Rattle.wv_config.specs.Entries.{AreEntriesTo}
use Rattle.wv_config.proofs.naming.add_entries.Given as goal

-- the entries are those of the mods before, and of this one so far
abbrev pub invariant-loop-place : goal.invariant-loop-place
invariant-loop-place l = (mods : List ModInfo) → slice_get mods l.mod_place ≡ Some l.info → AreEntriesTo l.side mods l.mod_place 0 l.fn.entries.items → AreEntriesTo l.side mods l.mod_place l.place l.entries.items
