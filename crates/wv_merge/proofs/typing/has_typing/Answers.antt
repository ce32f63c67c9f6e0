use Rattle.std.proofs.Common.{refl}
use Rattle.wv_merge.proofs.TypingChecks.{typing_of_checks, no_typing}
use Rattle.wv_merge.proofs.typing.has_typing.Goals as goal

pub returns-in-Ok : goal.returns-in-Ok
returns-in-Ok c = (λ _. typing_of_checks c.args.max_stack c.args.insns.now (c.in-Ok.ensures {u = tt}), λ _. refl)

pub returns-in-Err-Untyped : goal.returns-in-Err-Untyped
returns-in-Err-Untyped c =
    let fails = rw c.in-Err-Untyped.field-0-is at (c.in-Err-Untyped.ensures {u = tt}) in
    (λ t. absurd cc, λ typing. absurd (no_typing c.args.max_stack c.args.insns.now fails typing))
