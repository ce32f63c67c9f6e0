use Rattle.std.proofs.Common.{ℕ, List, [], ◌∷◌, ◌++◌, take, sym, subst}
use Rattle.wv_base.specs.Folder.{File}
use Rattle.wv_front.specs.Opening.{Exceeds, PassesAt}
use Rattle.wv_front.proofs.Limits.{left-first, passes-here}
use Rattle.wv_front.proofs.limit.passing.Goals as goal

pub loop-path-init : goal.loop-path-init
loop-path-init c = left-first

pub returns-in-Some : goal.returns-in-Some
returns-in-Some c =
    let items = c.files-path-items.result.now in
    let file = c.loop-path-item.result in
    let i = c.loop-path.path-index in
    let over = subst (λ (p : List ℕ). Exceeds (take i items ++ (p, file.1) ∷ []) c.in-Some.limit) c.as_str.ensures (c.in-Some.ensures (take i items) c.loop-path.invariant) in
    subst (λ (fs : List File). PassesAt fs c.as_str-in-Some.result.now c.in-Some.limit) c.files-path-items.ensures.list
    (subst (λ (p : List ℕ). PassesAt items p c.in-Some.limit) (sym c.as_str-in-Some.ensures)
    (passes-here items i file c.in-Some.limit c.loop-path.allowance c.loop-path-test.true c.loop-path-item.is c.loop-path.invariant over))
