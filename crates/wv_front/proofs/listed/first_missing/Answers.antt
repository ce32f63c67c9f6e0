use Rattle.std.proofs.Common.{sym, ◌∙◌}
use Rattle.wv_front.proofs.Missing.{of-mixins, of-client, of-server}
use Rattle.wv_front.proofs.listed.first_missing.Goals as goal

pub returns-then-is_some : goal.returns-then-is_some
returns-then-is_some c = λ names h.
    of-mixins names c.args.config.now c.in_ok-mixin.mixin (sym c.is_some.ensures ∙ c.if-is_some.true)
    (rw c.as_slice.ensures at (c.in_ok-mixin.ensures names h))

pub returns-then-is_some-2 : goal.returns-then-is_some-2
returns-then-is_some-2 c = λ names h.
    of-client names c.args.config.now c.in_ok-mixin.mixin c.in_ok-client.client (sym c.is_some.ensures ∙ c.if-is_some.false) (sym c.is_some-2.ensures ∙ c.if-is_some-2.true)
    (rw c.as_slice.ensures at (c.in_ok-mixin.ensures names h))
    (rw c.as_slice-2.ensures at (c.in_ok-client.ensures names h))

pub returns : goal.returns
returns c = λ names h.
    of-server names c.args.config.now c.in_ok-mixin.mixin c.in_ok-client.client c.first_missing_of-3.result (sym c.is_some.ensures ∙ c.if-is_some.false) (sym c.is_some-2.ensures ∙ c.if-is_some-2.false)
    (rw c.as_slice.ensures at (c.in_ok-mixin.ensures names h))
    (rw c.as_slice-2.ensures at (c.in_ok-client.ensures names h))
    (rw c.as_slice-3.ensures at (c.first_missing_of-3.ensures names h))
