use Rattle.std.proofs.Common.{refl, tests, rules}
use Rattle.std.specs.Prelude.{IsTrue}
use Rattle.wv_pool.proofs.PoolReads.{no_break}
use Rattle.wv_class.proofs.pool_layout.is_pool.Goals as goal

pub returns-in-Some : goal.returns-in-Some
returns-in-Some c =
    let breaks = rw c.in-Some.is at c.in_ok-first_break.ensures.found in
    (λ e. cc, λ is. absurd (no_break c.args.pool.now c.in-Some.field-0 is breaks))

pub returns-in-None : goal.returns-in-None
returns-in-None c =
    let yes : IsTrue c.in_ok-is_layout.field-0 = search (rules, tests) in
    let sound = rw c.in-None.is at c.in_ok-first_break.ensures.none in
    let laid_out = c.in_ok-is_layout.ensures.0 yes in
    (λ e. (laid_out, sound), λ is. refl)
