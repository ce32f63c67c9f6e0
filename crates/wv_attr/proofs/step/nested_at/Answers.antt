use Rattle.std.proofs.Common.{◌≡◌, ℕ, refl, true, false, subst}
use Rattle.wv_room.specs.declared.element_count.ElementKind.TheVariants as kinds
use Rattle.wv_room.specs.Counts.{elements_with, ElementsFillRoom}
use Rattle.wv_attr.specs.Steps.{padded}
use Rattle.wv_attr.proofs.Padding.{length-padded}
use Rattle.wv_attr.proofs.StepFaults.{nested_fault}
use Rattle.wv_attr.proofs.ValueSteps.{nested_ok}
use Rattle.wv_attr.proofs.step.nested_at.Goals as goal

pub returns-then-not-leaves : goal.returns-then-not-leaves
returns-then-not-leaves c =
    nested_fault c.args.depth c.args.besides (padded c.args.rest.now c.args.missing)
    (λ f. let bad : false ≡ true = c.if-not-leaves.ensures.1 (subst (λ (k : ℕ). ElementsFillRoom (elements_with kinds.Annotation 1 c.args.besides) k) (length-padded c.args.rest.now c.args.missing) f) in absurd cc)

pub returns : goal.returns
returns c = nested_ok c.args.depth c.args.besides c.args.rest.now c.args.missing c.requires.shallow (c.if-not-leaves.ensures.0 refl)
