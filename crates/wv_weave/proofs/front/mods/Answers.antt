use Rattle.std.proofs.Common.{ℕ, List, ◌∙◌, subst}
use Rattle.wv_resolve.specs.Discovery as rules
use Rattle.wv_weave.proofs.front.mods.Goals as goal

pub returns-in-Ok-clause-kept : goal.returns-in-Ok-clause-kept
returns-in-Ok-clause-kept c = (
  c.in_ok-game.game,
  c.in_ok-game.ensures {u = tt},
  subst (λ (present : List (List ℕ × List ℕ)). rules.AreKept present c.args.folder.now c.args.side) (c.as_slice.ensures.value ∙ c.in_ok-present.ensures {u = tt}) c.in-Ok.ensures.kept,
)

pub returns-in-Err-Broken-clause-broken : goal.returns-in-Err-Broken-clause-broken
returns-in-Err-Broken-clause-broken c = (
  c.in_ok-game.game,
  c.in_ok-game.ensures {u = tt},
  subst (λ (present : List (List ℕ × List ℕ)). rules.IsFirstBroken present c.args.folder.now c.args.side c.in-Err-Broken.broken) (c.as_slice.ensures.value ∙ c.in_ok-present.ensures {u = tt})
      (rw c.in-Err-Broken.field-0-is at c.in-Err-Broken.ensures.fault),
)
