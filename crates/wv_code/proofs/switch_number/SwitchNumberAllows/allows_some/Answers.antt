use Rattle.std.proofs.Common.{refl, sym, ◌∙◌, inl, inr, arith}
use Rattle.wv_code.proofs.SwitchNumbers.{tried, last_tried}
use Rattle.wv_code.proofs.switch_number.SwitchNumberAllows.allows_some.Goals as goal
use Rattle.wv_code.proofs.switch_number.SwitchNumberAllows.allows_some.Goals.{then-allows_value-via-then-allows_value, then-allows_value-via-else-allows_value+then-allows_value-2}

pub returns-then-allows_value : goal.returns-then-allows_value
returns-then-allows_value c =
    let s = c.args.self.now in (
      λ t. elim c.then-allows_value.branch [
        | then-allows_value-via-then-allows_value w ↦ tried s.part s.tail s.room c.args.least c.args.most c.requires (inl (c.allows_value.ensures.0 w.if-allows_value.true))
        | then-allows_value-via-else-allows_value+then-allows_value-2 w ↦ tried s.part s.tail s.room c.args.least c.args.most c.requires (inr (inl (w.allows_value-else-allows_value.ensures.0 w.if-allows_value-2.true)))
      ],
      λ a. refl,
    )

pub returns-then-spans_sign : goal.returns-then-spans_sign
returns-then-spans_sign c =
    let s = c.args.self.now in
    let span = c.spans_sign.ensures.0 c.if-spans_sign.true in
    last_tried s.part s.tail s.room c.args.least c.args.most c.allows_value-then-spans_sign.result c.requires (omega (arith, c.ranges.most.fits)) (λ e. sym c.if-allows_value.false ∙ c.allows_value.ensures.1 e) (λ e. sym c.if-allows_value-2.false ∙ c.allows_value-else-allows_value.ensures.1 e)
    (λ t. (span.0, span.1, c.allows_value-then-spans_sign.ensures.0 t))
    (λ h. c.allows_value-then-spans_sign.ensures.1 h.2)

pub returns-else-spans_sign : goal.returns-else-spans_sign
returns-else-spans_sign c =
    let s = c.args.self.now in
    last_tried s.part s.tail s.room c.args.least c.args.most c.spans_sign.result c.requires (omega (arith, c.ranges.most.fits)) (λ e. sym c.if-allows_value.false ∙ c.allows_value.ensures.1 e) (λ e. sym c.if-allows_value-2.false ∙ c.allows_value-else-allows_value.ensures.1 e)
    (λ t. absurd (let f = sym c.if-spans_sign.false ∙ t in cc))
    (λ h. c.spans_sign.ensures.1 (h.0, h.1))
