use Rattle.std.proofs.Common.{◌≡◌, ℕ, ◌+◌, ◌-◌, ◌≤◌, length, refl, true, false, sym, subst, inl, inr, arith}
use Rattle.wv_room.specs.declared.element_count.ElementKind.TheVariants as kinds
use Rattle.wv_room.specs.Counts.{elements_with, ElementsFillRoom}
use Rattle.wv_attr.specs.Steps.{padded}
use Rattle.wv_attr.proofs.Padding.{length-padded, none_more}
use Rattle.wv_room.specs.Number.{AllowsSome}
use Rattle.wv_attr.proofs.StepFaults.{no_array, array_fault}
use Rattle.wv_attr.proofs.ValueSteps.{array_ok}
use Rattle.wv_attr.proofs.step.array_at.Goals as goal
use Rattle.wv_attr.proofs.step.array_at.Goals.{then-rest-lt2-via-then-rest-lt2, then-rest-lt2-via-else-rest-lt2+then-not-leaves_some}

room : (there missing all : ℕ) → all ≡ there + missing → 2 ≤ there → all - 2 ≡ there - 2 + missing
room there missing all e le = omega arith

pub returns-then-rest-lt2 : goal.returns-then-rest-lt2
returns-then-rest-lt2 c =
    let long = length-padded c.args.rest.now c.args.missing in
    no_array c.args.depth c.args.besides (padded c.args.rest.now c.args.missing)
    (elim c.then-rest-lt2.branch [
      | then-rest-lt2-via-then-rest-lt2 w ↦ inl (let few = none_more (length c.args.rest.now) c.args.missing 2 c.requires.near w.if-rest-lt2.true (omega arith) in omega arith)
      | then-rest-lt2-via-else-rest-lt2+then-not-leaves_some w ↦ inr (λ some.
          let bad : false ≡ true = w.if-not-leaves_some.ensures.1 (subst (λ (k : ℕ). AllowsSome (λ n. ElementsFillRoom (elements_with kinds.Value n c.args.besides) k) 0 65535) (room (length c.args.rest.now) c.args.missing _ long w.if-rest-lt2.false) some) in absurd cc)
    ])

pub returns-in-Err : goal.returns-in-Err
returns-in-Err c =
    let long = length-padded c.args.rest.now c.args.missing in
    array_fault c.args.depth c.args.besides (padded c.args.rest.now c.args.missing) c.in-Err.place c.requires.shallow (omega (arith, long, c.if-rest-lt2.false))
    (subst (λ (k : ℕ). AllowsSome (λ n. ElementsFillRoom (elements_with kinds.Value n c.args.besides) k) 0 65535) (sym (room (length c.args.rest.now) c.args.missing _ long c.if-rest-lt2.false)) (c.if-not-leaves_some.ensures.0 refl)) c.in-Err.ensures

pub returns-in-Ok : goal.returns-in-Ok
returns-in-Ok c = array_ok c.args.depth c.args.besides (padded c.args.rest.now c.args.missing) c.in-Ok.count c.requires.shallow (omega (arith, length-padded c.args.rest.now c.args.missing, c.if-rest-lt2.false)) c.in-Ok.ensures
