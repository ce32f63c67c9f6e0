use Rattle.std.proofs.Common.{ap, ◌∙◌, List, ℕ}
use Rattle.wv_front.specs.Opening.{too_much}
use Rattle.wv_front.proofs.Openings.{at-cut}
use Rattle.wv_front.proofs.opened.opening_cut.Goals as goal

pub returns-in-Ok-too_much : goal.returns-in-Ok-too_much
returns-in-Ok-too_much c = record {
  broken = at-cut c.args.folder.now c.args.cut.now c.in-Ok.ensures.jars c.in-Ok.ensures.listed c.in-Ok.ensures.game c.in-Ok-too_much.broken
      (c.in-Ok-too_much.ensures ∙ ap (λ (p : List ℕ). too_much p c.args.cut.now.limit) c.as_str.ensures);
}
