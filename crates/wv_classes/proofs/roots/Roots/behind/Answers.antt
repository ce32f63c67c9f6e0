use Rattle.std.proofs.Common.{codes, sym, ◌∙◌, true≢false}
use Rattle.wv_resolve.proofs.Paths.{stripped}
use Rattle.wv_classes.proofs.Behind.{behind-game, behind-mod, none-behind, unloaded-behind}
use Rattle.wv_classes.proofs.roots.Roots.behind.Goals as goal

pub returns-in-Some : goal.returns-in-Some
returns-in-Some c = λ folder side roots.
    behind-game folder side c.args.path.now c.in-Some.rest.now
    (rw c.in-Some.is at (stripped (codes "game/") c.args.path.now c.strip_prefix.result c.strip_prefix.ensures.cases))

pub returns-in_err-name : goal.returns-in_err-name
returns-in_err-name c = λ folder side roots.
    let no_game = rw c.in_default.is at (stripped (codes "game/") c.args.path.now c.strip_prefix.result c.strip_prefix.ensures.cases) in
    rw c.from_residual.ensures (none-behind folder side c.args.path.now no_game (rw c.in_err-name.was at c.mod_parts.ensures))

pub returns-then-contains : goal.returns-then-contains
returns-then-contains c = λ folder side roots.
    let name = c.in_ok-name.name.now in
    let lies = c.in_ok-name.ensures in
    behind-mod folder side c.args.path.now name c.in_ok-name.rest.now lies.0 lies.1
    ((roots name).0 (sym c.contains.ensures ∙ c.if-contains.true))

pub returns-else-contains : goal.returns-else-contains
returns-else-contains c = λ folder side roots.
    let name = c.in_ok-name.name.now in
    let no_game = rw c.in_default.is at (stripped (codes "game/") c.args.path.now c.strip_prefix.result c.strip_prefix.ensures.cases) in
    unloaded-behind folder side c.args.path.now name no_game c.in_ok-name.ensures.0
    (λ loaded. true≢false (sym ((roots name).1 loaded) ∙ sym c.contains.ensures ∙ c.if-contains.false))
