-- The opcodes that alone have their form.
use Rattle.std.proofs.Common.{◌≡◌, ℕ, ◌<◌, ◌≤◌, Bool, true, false, cond, leb, Option, Some, refl, subst, arith}
use Rattle.std.proofs.lemmas.Bool.{leb-true, leb-false}
use Rattle.wv_base.specs.declared.form.Form.{Form}
use Rattle.wv_base.specs.declared.form.Form.TheVariants as form
use Rattle.wv_base.specs.Instructions.{form_of}
use Rattle.wv_base.specs.Opcodes.{iinc, tableswitch, lookupswitch, invokeinterface, invokedynamic, newarray, multianewarray, wide}

-- the opcode is the one of its form, where there is but one
abbrev pub Only : ℕ → Option Form → Type 0
Only op (Some form.Increment) = op ≡ iinc
Only op (Some form.Table) = op ≡ tableswitch
Only op (Some form.Lookup) = op ≡ lookupswitch
Only op (Some form.Interface) = op ≡ invokeinterface
Only op (Some form.Dynamic) = op ≡ invokedynamic
Only op (Some form.Array) = op ≡ newarray
Only op (Some form.MultiArray) = op ≡ multianewarray
Only op (Some form.Wide) = op ≡ wide
Only op _ = Unit {0}

-- one line of the table
line : (op last : ℕ) (here behind : Option Form) → (op ≤ last → Only op here) → (last < op → Only op behind) → Only op (cond (leb op last) here behind)
line op last here behind within past = by_test (leb op last) refl
  where
    by_test : (b : Bool) → leb op last ≡ b → Only op (cond b here behind)
    by_test true e = within (leb-true op last e)
    by_test false e = past (leb-false op last e)

only_of : (op : ℕ) → Only op (form_of op)
unfolding form_of
only_of op =
    line op _ _ _ (λ h. tt) (λ h. line op _ _ _ (λ h. tt) (λ h. line op _ _ _ (λ h. tt) (λ h. line op _ _ _ (λ h. tt) (λ h. line op _ _ _ (λ h. tt) (λ h.
    line op _ _ _ (λ h. tt) (λ h. line op _ _ _ (λ h. tt) (λ h. line op _ _ _ (λ h. tt) (λ h. line op _ _ _ (λ h. tt) (λ above. line op _ _ _ (λ h. omega arith) (λ h.
    line op _ _ _ (λ h. tt) (λ h. line op _ _ _ (λ h. tt) (λ h. line op _ _ _ (λ h. tt) (λ above. line op _ _ _ (λ h. omega arith) (λ above. line op _ _ _ (λ h. omega arith) (λ h.
    line op _ _ _ (λ h. tt) (λ h. line op _ _ _ (λ h. tt) (λ above. line op _ _ _ (λ h. omega arith) (λ above. line op _ _ _ (λ h. omega arith) (λ h. line op _ _ _ (λ h. tt) (λ above.
    line op _ _ _ (λ h. omega arith) (λ h. line op _ _ _ (λ h. tt) (λ h. line op _ _ _ (λ h. tt) (λ h. line op _ _ _ (λ h. tt) (λ h. line op _ _ _ (λ h. tt) (λ above.
    line op _ _ _ (λ h. omega arith) (λ above. line op _ _ _ (λ h. omega arith) (λ h. line op _ _ _ (λ h. tt) (λ h. line op _ _ _ (λ h. tt) (λ h. tt)))))))))))))))))))))))))))))

pub only : (op : ℕ) (f : Option Form) → form_of op ≡ f → Only op f
only op f e = subst (Only op) e (only_of op)
