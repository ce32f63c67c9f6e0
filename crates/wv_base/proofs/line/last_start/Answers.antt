use Rattle.std.proofs.Common.{◌≡◌, ◌∙◌, sym, arith}
use Rattle.wv_base.proofs.Buffer.{floor-start, floor-within, floor-zero}
use Rattle.wv_base.proofs.line.last_start.Goals as goal

pub loop-place-preserved : goal.loop-place-preserved
loop-place-preserved c =
    (omega arith, sym (floor-within c.args.out.now c.loop-place.place c.loop-place-test.true (sym c.starts_character.ensures ∙ c.if-not-starts_character.true)) ∙ c.loop-place.invariant.1)

pub returns-else-not-starts_character-clause-start : goal.returns-else-not-starts_character-clause-start
returns-else-not-starts_character-clause-start c =
    sym (floor-start c.args.out.now c.loop-place.place (sym c.starts_character.ensures ∙ c.if-not-starts_character.false)) ∙ c.loop-place.invariant.1

pub returns-after-loop-place-clause-start : goal.returns-after-loop-place-clause-start
returns-after-loop-place-clause-start c =
    let least : c.loop-place.place ≡ 0 = omega arith in
    least ∙ sym (floor-zero c.args.out.now) ∙ rw least at c.loop-place.invariant.1
