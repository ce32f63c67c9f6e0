use Rattle.std.proofs.Common.{◌≡◌, ℕ, List, Some, ap, sym, subst, ◌∙◌, arith}
use Rattle.std.specs.Option.{option_map}
use Rattle.wv_base.specs.declared.constant.Const.{Const}
use Rattle.wv_base.specs.declared.frame.VType.{VType}
use Rattle.wv_base.specs.declared.frame.VType.TheVariants as vtypes
use Rattle.wv_pool.specs.Adding.{Grows, class_needs}
use Rattle.wv_pool.proofs.Behind.{class_is}
use Rattle.wv_frames.specs.Writing.{type_needs}
use Rattle.wv_frames.proofs.PoolGrowth.{grows_nothing, class_added}
use Rattle.wv_frames.proofs.adding.raw_type.Goals as goal

pub returns-in-Top-clause-grows : goal.returns-in-Top-clause-grows
returns-in-Top-clause-grows c = grows_nothing c.args.pool.now c.args.kind.now (ap type_needs c.in-Top.is)

pub returns-in-Int-clause-grows : goal.returns-in-Int-clause-grows
returns-in-Int-clause-grows c = grows_nothing c.args.pool.now c.args.kind.now (ap type_needs c.in-Int.is)

pub returns-in-Float-clause-grows : goal.returns-in-Float-clause-grows
returns-in-Float-clause-grows c = grows_nothing c.args.pool.now c.args.kind.now (ap type_needs c.in-Float.is)

pub returns-in-Double-clause-grows : goal.returns-in-Double-clause-grows
returns-in-Double-clause-grows c = grows_nothing c.args.pool.now c.args.kind.now (ap type_needs c.in-Double.is)

pub returns-in-Long-clause-grows : goal.returns-in-Long-clause-grows
returns-in-Long-clause-grows c = grows_nothing c.args.pool.now c.args.kind.now (ap type_needs c.in-Long.is)

pub returns-in-Null-clause-grows : goal.returns-in-Null-clause-grows
returns-in-Null-clause-grows c = grows_nothing c.args.pool.now c.args.kind.now (ap type_needs c.in-Null.is)

pub returns-in-UninitializedThis-clause-grows : goal.returns-in-UninitializedThis-clause-grows
returns-in-UninitializedThis-clause-grows c = grows_nothing c.args.pool.now c.args.kind.now (ap type_needs c.in-UninitializedThis.is)

pub returns-in-Uninitialized-clause-grows : goal.returns-in-Uninitialized-clause-grows
returns-in-Uninitialized-clause-grows c = grows_nothing c.args.pool.now c.args.kind.now (ap type_needs c.in-Uninitialized.is)

pub returns-in_ok-add-in-Class-clause-found : goal.returns-in_ok-add-in-Class-clause-found
returns-in_ok-add-in-Class-clause-found c =
    let is = class_is c.add.new.self c.in_ok-add-in-Class.field-0 c.in_ok-copy-in-Class.field-0 c.in_ok-add-in-Class.ensures.least.names in
    (omega arith, ap (option_map (λ name. vtypes.Class name)) is ∙ ap (λ (name : List ℕ). Some (vtypes.Class name)) c.in_ok-copy-in-Class.ensures ∙ ap (λ (kind : VType). Some kind) (sym c.in-Class.is))

pub returns-in_ok-add-in-Class-clause-grows : goal.returns-in_ok-add-in-Class-clause-grows
returns-in_ok-add-in-Class-clause-grows c =
    let same : class_needs c.in_ok-copy-in-Class.field-0 ≡ type_needs c.args.kind.now = ap class_needs c.in_ok-copy-in-Class.ensures ∙ sym (ap type_needs c.in-Class.is) in
    subst (λ (cs : List Const). Grows c.args.pool.now cs c.add.new.self) same
    (class_added c.args.pool.now c.add.new.self c.in_ok-copy-in-Class.field-0 (λ h. (c.in_ok-add-in-Class.ensures.same h).0) c.in_ok-add-in-Class.ensures.grows)
