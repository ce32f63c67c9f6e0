use Rattle.std.proofs.Common.{◌≡◌, ℕ, length, refl, true, false, sym, subst, ◌∙◌, arith}
use Rattle.wv_room.specs.declared.element_count.ElementKind.TheVariants as kinds
use Rattle.wv_room.specs.Counts.{elements_with, ElementsFillRoom}
use Rattle.wv_attr.specs.Steps.{padded}
use Rattle.wv_attr.proofs.Padding.{length-padded, room_after, none_more}
use Rattle.wv_attr.proofs.StepFaults.{constant_fault}
use Rattle.wv_attr.proofs.ValueSteps.{constant_ok}
use Rattle.wv_attr.proofs.step.constant_at.Goals as goal

pub returns-in_default : goal.returns-in_default
returns-in_default c =
    constant_fault c.args.depth c.args.tag c.args.besides (padded c.args.rest.now c.args.missing) c.requires.no_enum c.requires.no_class c.requires.no_nested c.requires.no_array
    (λ is le f. let few = none_more (length c.args.rest.now) c.args.missing 2 c.requires.near c.in_default.len_below (omega arith) in omega (arith, length-padded c.args.rest.now c.args.missing))

pub returns-then-not-leaves : goal.returns-then-not-leaves
returns-then-not-leaves c =
    constant_fault c.args.depth c.args.tag c.args.besides (padded c.args.rest.now c.args.missing) c.requires.no_enum c.requires.no_class c.requires.no_nested c.requires.no_array
    (λ is le f. let bad : false ≡ true = c.if-not-leaves.ensures.1 (subst (λ (k : ℕ). ElementsFillRoom (elements_with kinds.Value 0 c.args.besides) k) (room_after 2 c.args.rest.now c.args.missing c.in-len2-up.len_at_least) f) in absurd cc)

pub returns : goal.returns
returns c =
    constant_ok c.args.depth c.args.besides c.args.tag c.args.rest.now c.args.missing c.number.result (sym c.is_constant_tag.ensures ∙ c.if-not-is_constant_tag.false) c.requires.shallow (omega (arith, c.number.type_inv)) c.in-len2-up.len_at_least c.number.ensures (c.if-not-leaves.ensures.0 refl)
