use Rattle.std.proofs.Common.{take, flat_map}
use Rattle.wv_classes.specs.Roots.{HasExactly}
use Rattle.wv_form.specs.Tables.{candidate_names}
use Rattle.wv_form.proofs.tables.names_of_candidates.Given as goal

-- the names so far
abbrev pub invariant-loop-known : goal.invariant-loop-known
invariant-loop-known l = HasExactly (flat_map candidate_names (take l.known-index l.files)) l.names
