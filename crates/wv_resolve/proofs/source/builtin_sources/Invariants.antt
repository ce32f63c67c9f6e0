use Rattle.std.proofs.Common.{◌≡◌, take, map, flat_map, All}
use Rattle.wv_resolve.specs.Presence.{builtin_presence}
use Rattle.wv_resolve.specs.Holding.{source_presences, IsRead}
use Rattle.wv_resolve.proofs.source.builtin_sources.Given as goal

-- the entries so far are the sources so far
abbrev pub invariant-loop-entry : goal.invariant-loop-entry
invariant-loop-entry l = record {
  present : flat_map source_presences l.sources.items ≡ map builtin_presence (take l.entry-index l.builtin);
  read : All IsRead l.sources.items;
}
