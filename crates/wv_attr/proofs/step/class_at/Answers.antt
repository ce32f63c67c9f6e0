use Rattle.std.proofs.Common.{◌≡◌, ℕ, length, refl, true, false, subst, arith}
use Rattle.wv_room.specs.declared.element_count.ElementKind.TheVariants as kinds
use Rattle.wv_room.specs.Counts.{elements_with, ElementsFillRoom}
use Rattle.wv_attr.specs.Steps.{padded}
use Rattle.wv_attr.proofs.Padding.{length-padded, room_after, none_more}
use Rattle.wv_attr.proofs.StepFaults.{class_fault}
use Rattle.wv_attr.proofs.ValueSteps.{class_ok}
use Rattle.wv_attr.proofs.step.class_at.Goals as goal

pub returns-in_default : goal.returns-in_default
returns-in_default c =
    class_fault c.args.depth c.args.besides (padded c.args.rest.now c.args.missing) (λ le f. let few = none_more (length c.args.rest.now) c.args.missing 2 c.requires.near c.in_default.len_below (omega arith) in omega (arith, length-padded c.args.rest.now c.args.missing))

pub returns-then-not-leaves : goal.returns-then-not-leaves
returns-then-not-leaves c =
    class_fault c.args.depth c.args.besides (padded c.args.rest.now c.args.missing)
    (λ le f. let bad : false ≡ true = c.if-not-leaves.ensures.1 (subst (λ (k : ℕ). ElementsFillRoom (elements_with kinds.Value 0 c.args.besides) k) (room_after 2 c.args.rest.now c.args.missing c.in-len2-up.len_at_least) f) in absurd cc)

pub returns : goal.returns
returns c = class_ok c.args.depth c.args.besides c.args.rest.now c.args.missing c.number.result c.requires.shallow (omega (arith, c.number.type_inv)) c.in-len2-up.len_at_least c.number.ensures (c.if-not-leaves.ensures.0 refl)
