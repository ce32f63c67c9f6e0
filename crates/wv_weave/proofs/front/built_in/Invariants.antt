use Rattle.std.proofs.Common.{◌≡◌, ◌∷◌, take}
use Rattle.wv_weave.proofs.front.built_in.Given as goal

-- the entries are the game's and those so far of what is built in
abbrev pub invariant-loop-id : goal.invariant-loop-id
invariant-loop-id l = l.entries.items ≡ (l.game.id, l.game.version) ∷ take l.id-index l.id-items
