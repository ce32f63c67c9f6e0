use Rattle.std.proofs.Common.{ℕ, length, sym, subst, arith}
use Rattle.wv_room.specs.declared.element_count.ElementKind.TheVariants as kinds
use Rattle.wv_room.specs.Counts.{elements_with, ElementsFillRoom}
use Rattle.wv_attr.specs.Steps.{padded}
use Rattle.wv_attr.proofs.Padding.{length-padded, least_there}
use Rattle.wv_attr.proofs.Fills.{least_room}
use Rattle.wv_attr.proofs.StepFaults.{name_step}
use Rattle.wv_attr.proofs.ValueSteps.{name_ok}
use Rattle.wv_attr.proofs.step.name_at.Goals as goal

pub unreachable-requires : goal.unreachable-requires
unreachable-requires c = let some = least_there (length c.args.bytes.now) c.args.missing 2 c.requires.near (omega (arith, least_room c.requires.fits)) (omega arith) in omega (arith, some)

pub returns : goal.returns
returns c = (
  (λ e. absurd cc),
  name_step c.args.depth c.args.besides (padded c.args.bytes.now c.args.missing) c.number.result (omega (arith, c.number.type_inv))
      (subst (λ (k : ℕ). ElementsFillRoom (elements_with kinds.Pair 1 c.args.besides) k) (sym (length-padded c.args.bytes.now c.args.missing)) c.requires.fits),
  name_ok c.args.depth c.args.besides c.args.bytes.now c.args.missing c.number.result c.in-len2-up.len_at_least c.number.ensures,
)
