-- The table of the written class: the methods of the target, one of them overwritten.
use Rattle.std.proofs.Common.{◌≡◌, ℕ, zero, suc, List, [], ◌∷◌, set, length, get_or, Some, refl, sym, ap, subst, ◌∙◌, arith}
use Rattle.std.specs.Prelude.{Contains, slice_get}
use Rattle.std.specs.List.{AllZip}
use Rattle.wv_base.specs.declared.class_file.Member.{Member}
use Rattle.wv_base.proofs.FieldTypes.{some_is}
use Rattle.wv_class.specs.Formed.{AreDistinct}
use Rattle.wv_model.specs.MemberTable.{Applied, IsMember, replaced, unchanged, overwritten}
use Rattle.wv_model.specs.PlainMethod.{AreSame}

-- no method of the list has the name and the descriptor of this one
abbrev NoneSame : Member → List Member → Type 0
NoneSame method methods = (k : ℕ) (other : Member) → slice_get methods k ≡ Some other → AreSame method other → ⊥

none_later : (method : Member) (methods : List Member) → AreDistinct (method ∷ methods) → NoneSame method methods
none_later method methods distinct k other at same = distinct 0 (suc k) method other (omega arith) refl at same.0 same.1

behind : (method : Member) (methods : List Member) → AreDistinct (method ∷ methods) → AreDistinct methods
behind method methods distinct j k one other less = distinct (suc j) (suc k) one other (omega (arith, less))

module _ (mixin : Applied) (origin : Member) (there : Contains mixin.methods origin) (single : (other : Member) → Contains mixin.methods other → other ≡ origin) where
  stays : (method : Member) → (AreSame method origin → ⊥) → IsMember mixin method method
  stays method other = unchanged (λ o c same. other (subst (AreSame method) (single o c) same))

  all_stay : (old : Member) (methods : List Member) → AreSame old origin → NoneSame old methods → AllZip (IsMember mixin) methods methods
  all_stay old [] same apart = tt
  all_stay old (method ∷ methods) same apart =
      (stays method (λ h. apart 0 method refl (same.0 ∙ sym h.0, same.1 ∙ sym h.1)), all_stay old methods same (λ k. apart (suc k)))

  pub table : (methods : List Member) (place : ℕ) (old : Member) → slice_get methods place ≡ Some old → AreSame old origin → AreDistinct methods → AllZip (IsMember mixin) methods (set methods place (overwritten mixin.name mixin.target old origin))
  table [] place old at same distinct = cc
  table (method ∷ methods) zero old at same distinct =
      let is : method ≡ old = some_is method old at in (
        subst (λ (m : Member). IsMember mixin m (overwritten mixin.name mixin.target old origin)) (sym is) (replaced there same),
        all_stay method methods (subst (λ (m : Member). AreSame m origin) (sym is) same) (none_later method methods distinct),
      )
  table (method ∷ methods) (suc place) old at same distinct =
      (stays method (λ h. none_later method methods distinct place old at (h.0 ∙ sym same.0, h.1 ∙ sym same.1)), table methods place old at same (behind method methods distinct))

-- the only one of a list of one
pub one_only : (methods : List Member) (first other : Member) → length methods ≡ 1 → Contains methods first → Contains methods other → other ≡ first
one_only [] first other one c d = cc
one_only (m ∷ n ∷ methods) first other one c d = absurd (omega (arith, one))
one_only (m ∷ []) first other one (i, within, is) (j, inside, same) =
    let zero_i : i ≡ 0 = omega arith in
    let zero_j : j ≡ 0 = omega arith in
    sym same ∙ ap (λ (k : ℕ). get_or (m ∷ []) k other) zero_j ∙ sym (ap (λ (k : ℕ). get_or (m ∷ []) k first) zero_i) ∙ is
