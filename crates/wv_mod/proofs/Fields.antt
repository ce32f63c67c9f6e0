-- Fields that are there, absent or of another kind.
use Rattle.std.proofs.Common.{◌≡◌, ℕ, ◌<◌, ◌==◌, Bool, false, List, [], ◌∷◌, length, Option, Some, None, Result, Ok, Err, IsTrue, IfOk, subst, arith}
use Rattle.std.specs.Option.{IfSome}
use Rattle.std.specs.Borrow.{Bor}
use Rattle.std.proofs.lemmas.Bool.Decides.{nat_tests}
use Rattle.serde_json.specs.declared.value.Value.{Value}
use Rattle.serde_json.specs.Data.{Data, array, no_items}
use Rattle.serde_json.specs.View.{items_view}
use Rattle.wv_json.specs.declared.field.Field.TheVariants.{Is, Other}
use Rattle.wv_json.specs.Field.{IsField, IsRead}
use Rattle.wv_json.specs.Kind.{IsList}
use Rattle.wv_mod.specs.Field.{IsFound, IsOptional}

optional-some : {A E : Type 0} (OfKind : Data → A → Type 0) (default : A) (value : Data) (r : Result (Option A) E) → IfOk r (IsRead OfKind value) → IfOk r (IsFound (IsOptional OfKind default (Some value)))
optional-some OfKind default value (Ok (Some x)) h = h
optional-some OfKind default value (Ok None) h = h
optional-some OfKind default value (Err e) h = tt

-- what is read of the value at a key is what is read of the field
pub optional-read : {A E : Type 0} (OfKind : Data → A → Type 0) (default : A) (at : Option Data) (value : Data) (r : Result (Option A) E) → Some value ≡ at → IfOk r (IsRead OfKind value) → IfOk r (IsFound (IsOptional OfKind default at))
optional-read {A} {E} OfKind default at value r is h = subst (λ (o : Option Data). IfOk r (IsFound (IsOptional OfKind default o))) is (optional-some OfKind default value r h)

full : (list : List Value) (b : Bool) → 0 < length list → b ≡ (length list == 0) → IsTrue b → ⊥
full list b some test t = grind (arith, nat_tests)

empty-list : (value : Data) (list : List Value) (b : Bool) → value ≡ array (items_view list) → b ≡ (length list == 0) → (IsTrue b → value ≡ array no_items) × (value ≡ array no_items → IsTrue b)
empty-list value [] b is test = (λ t. is, λ e. grind (arith, nat_tests))
empty-list value (x ∷ list) b is test = (λ t. absurd (full (x ∷ list) b (omega arith) test t), λ e. absurd (cc))

pub jars-list : (at : Option Data) (items : Bor (List Value)) (b : Bool) → IsField IsList at (Is items) → b ≡ (length items.now == 0) → (IsTrue b → IfSome at (λ jars. jars ≡ array no_items)) × (IfSome at (λ jars. jars ≡ array no_items) → IsTrue b)
jars-list None items b h test = absurd h
jars-list (Some value) items b h test = empty-list value items.now b h test

wrong : IsTrue false → ⊥
wrong t = cc

other-list : (at : Option Data) (address : ℕ × ℕ) → IsField IsList at Other → IfSome at (λ jars. jars ≡ array no_items) → ⊥
other-list None address h empty = h
other-list (Some value) address h empty = h (record { ref_ptr = address; now = [] }) empty

pub jars-other : (at : Option Data) (address : ℕ × ℕ) → IsField IsList at Other → (IsTrue false → IfSome at (λ jars. jars ≡ array no_items)) × (IfSome at (λ jars. jars ≡ array no_items) → IsTrue false)
jars-other at address h = (λ t. absurd (wrong t), λ e. absurd (other-list at address h e))
