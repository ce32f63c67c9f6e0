-- An opened folder has a description of the game, which is as it has to be.
use Rattle.std.proofs.Common.{ℕ, List, refl, sym, subst}
use Rattle.wv_mod.specs.GameFlaw.{IsGameBroken}
use Rattle.wv_front.specs.Opening.{game_missing}
use Rattle.wv_weave.proofs.front.game.Goals as goal

pub unreachable-requires : goal.unreachable-requires
unreachable-requires c = c.requires.1.0 game_missing (sym c.in_default.ensures.content, refl)

pub unreachable-requires-in-Err-Broken : goal.unreachable-requires-in-Err-Broken
unreachable-requires-in-Err-Broken c = c.requires.1.1.0 c.in-Err-Broken.field-0-0 (
  c.in-Some.content.now,
  sym c.in-Some.ensures.content,
  tt,
  subst (λ (bytes : List ℕ). IsGameBroken bytes c.in-Err-Broken.field-0-0) c.as_slice.ensures (rw c.in-Err-Broken.field-0-is at c.in-Err-Broken.ensures.fault),
)
