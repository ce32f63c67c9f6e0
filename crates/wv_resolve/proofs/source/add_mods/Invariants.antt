use Rattle.std.proofs.Common.{◌≡◌, ◌++◌, take, flat_map, All}
use Rattle.wv_resolve.specs.Presence.{mod_presences}
use Rattle.wv_resolve.specs.Holding.{source_presences, IsRead}
use Rattle.wv_resolve.proofs.source.add_mods.Given as goal

-- the mods so far are sources behind those before
abbrev pub invariant-loop-info : goal.invariant-loop-info
invariant-loop-info l = record {
  present : flat_map source_presences l.sources.items ≡ flat_map source_presences l.initial.sources.items ++ flat_map mod_presences (take l.info-index l.loaded);
  read : All IsRead l.sources.items;
}
