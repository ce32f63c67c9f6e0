use Rattle.std.proofs.Common.{◌≡◌, map, take}
use Rattle.wv_config.specs.Slashes.{with_slashes}
use Rattle.wv_config.proofs.slashes.all_with_slashes.Given as goal

-- the texts so far
abbrev pub invariant-loop-text : goal.invariant-loop-text
invariant-loop-text l = l.slashed ≡ map with_slashes (take l.text-index l.texts)
