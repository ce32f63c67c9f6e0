-- Opcodes and the forms of their operands.
use Rattle.std.proofs.Common.{◌≡◌, ℕ, zero, suc, ◌+◌, ◌-◌, ◌<◌, ◌≤◌, Bool, true, false, cond, leb, ℤ, List, Option, Some, refl, subst, arith, ◌⊎◌, inl, inr}
use Rattle.std.specs.Prelude.{FitsSigned, pos, nat_lt, if◌then◌else◌}
use Rattle.std.specs.Int.{w16}
use Rattle.std.proofs.lemmas.Bool.{leb-true, leb-false}
use Rattle.std.proofs.lemmas.Bool.Decides.{nat_tests}
use Rattle.wv_base.specs.declared.form.Form.{Form}
use Rattle.wv_base.specs.declared.form.Form.TheVariants as form
use Rattle.wv_base.specs.Instructions.{form_of}
use Rattle.wv_base.specs.Opcodes.{bipush, sipush, ldc, ldc_w, ldc2_w, getstatic, invokestatic, invokeinterface, goto_w}
use Rattle.wv_insn.specs.declared.raw.Raw.TheVariants as raw
use Rattle.wv_insn.specs.Spelling.{IsInstruction}
use Rattle.wv_code.specs.Formed.{LoadsWords, TakesMember}
use Rattle.wv_code.specs.Writing.{load_opcode}

-- the opcodes of some forms
abbrev pub Only : ℕ → Option Form → Type 0
Only op (Some form.Byte) = op ≡ bipush
Only op (Some form.Short) = op ≡ sipush
Only op (Some form.Constant) = op ≡ ldc
Only op (Some form.WideConstant) = ldc < op
Only op (Some form.Branch) = op < goto_w
Only op (Some form.WideBranch) = op ≡ goto_w
Only op (Some form.Reference) = op ≤ invokestatic
Only op _ = Unit {0}

line : (op last : ℕ) (here behind : Option Form) → (op ≤ last → Only op here) → (last < op → Only op behind) → Only op (cond (leb op last) here behind)
line op last here behind within past = by_test (leb op last) refl
  where
    by_test : (b : Bool) → leb op last ≡ b → Only op (cond b here behind)
    by_test true e = within (leb-true op last e)
    by_test false e = past (leb-false op last e)

only_of : (op : ℕ) → Only op (form_of op)
unfolding form_of
only_of op =
    line op _ _ _ (λ h. tt) (λ above. line op _ _ _ (λ h. omega arith) (λ above. line op _ _ _ (λ h. omega arith) (λ above. line op _ _ _ (λ h. omega arith) (λ above. line op _ _ _ (λ h. above) (λ h.
    line op _ _ _ (λ h. tt) (λ h. line op _ _ _ (λ h. tt) (λ h. line op _ _ _ (λ h. tt) (λ h. line op _ _ _ (λ h. tt) (λ h. line op _ _ _ (λ h. tt) (λ h.
    line op _ _ _ (λ h. tt) (λ h. line op _ _ _ (λ h. omega arith) (λ h. line op _ _ _ (λ h. tt) (λ h. line op _ _ _ (λ h. tt) (λ h. line op _ _ _ (λ h. tt) (λ h.
    line op _ _ _ (λ h. tt) (λ h. line op _ _ _ (λ h. h) (λ h. line op _ _ _ (λ h. tt) (λ h. line op _ _ _ (λ h. tt) (λ h. line op _ _ _ (λ h. tt) (λ h.
    line op _ _ _ (λ h. tt) (λ h. line op _ _ _ (λ h. tt) (λ h. line op _ _ _ (λ h. tt) (λ h. line op _ _ _ (λ h. tt) (λ h. line op _ _ _ (λ h. tt) (λ h.
    line op _ _ _ (λ h. tt) (λ h. line op _ _ _ (λ h. tt) (λ h. line op _ _ _ (λ h. omega arith) (λ above. line op _ _ _ (λ h. omega arith) (λ h. tt)))))))))))))))))))))))))))))

pub only : (op : ℕ) (f : Form) → form_of op ≡ Some f → Only op (Some f)
only op f e = subst (Only op) e (only_of op)

ldc_form : form_of ldc ≡ Some form.Constant
unfolding form_of
ldc_form = refl

pub ldc_w_form : form_of ldc_w ≡ Some form.WideConstant
unfolding form_of
ldc_w_form = refl

ldc2_w_form : form_of ldc2_w ≡ Some form.WideConstant
unfolding form_of
ldc2_w_form = refl

pub goto_w_form : form_of goto_w ≡ Some form.WideBranch
unfolding form_of
goto_w_form = refl

-- a load with a number that fits it
pub load_form : (op number words : ℕ) → LoadsWords op words → IsInstruction (raw.Load (load_opcode op number) number)
load_form op number words (inl h) = elim h.0 [ inl is ↦ rw is (short (nat_lt 255 number) refl) | inr is ↦ rw is (inr ldc_w_form) ]
  where
    short : (b : Bool) → nat_lt 255 number ≡ b → IsInstruction (raw.Load (if b then ldc_w else ldc) number)
    short true e = inr ldc_w_form
    short false e = inl (ldc_form, grind (arith, nat_tests))
load_form op number words (inr h) = rw h.0 (inr ldc2_w_form)

reference_from : (j : ℕ) → j < 7 → form_of (178 + j) ≡ Some form.Reference
unfolding form_of
reference_from zero lt = refl
reference_from (suc zero) lt = refl
reference_from (suc (suc zero)) lt = refl
reference_from (suc (suc (suc zero))) lt = refl
reference_from (suc (suc (suc (suc zero)))) lt = refl
reference_from (suc (suc (suc (suc (suc zero))))) lt = refl
reference_from (suc (suc (suc (suc (suc (suc zero)))))) lt = refl
reference_from (suc (suc (suc (suc (suc (suc (suc j))))))) lt = absurd (omega arith)

pub reference_form : (op : ℕ) → getstatic ≤ op → op ≤ invokestatic → form_of op ≡ Some form.Reference
reference_form op low high = let e : 178 + (op - 178) ≡ op = omega arith in subst (λ (o : ℕ). form_of o ≡ Some form.Reference) e (reference_from (op - 178) (omega arith))

pub takes_form : (op : ℕ) (descriptor : List ℕ) (interface : Bool) → TakesMember op descriptor interface → (op ≡ invokeinterface → ⊥) → form_of op ≡ Some form.Reference
takes_form op descriptor interface (inl h) other = reference_form op h.0 (omega (arith, h.1))
takes_form op descriptor interface (inr (inl h)) other = reference_form op (omega (arith, h.0)) h.1
takes_form op descriptor interface (inr (inr h)) other = absurd (other h.0)

-- a jump that reaches its target
pub branch_form : (op : ℕ) (distance : ℤ) → IsInstruction (raw.Branch op (pos 0)) → (op ≡ goto_w) ⊎ FitsSigned w16 distance → IsInstruction (raw.Branch op distance)
branch_form op distance jump (inl is) = rw is (inr goto_w_form)
branch_form op distance (inl h) (inr fits) = inl (h.0, fits)
branch_form op distance (inr h) (inr fits) = inr h
