-- What is written takes as many bytes as the layout has for it.
use Rattle.std.proofs.Common.{◌≡◌, ℕ, ◌*◌, ◌<◌, ◌≤◌, ℤ, Bool, true, false, List, [], ◌∷◌, length, refl, sym, subst, ◌∙◌, arith, ◌⊎◌, inl, inr}
use Rattle.std.specs.Prelude.{◌==◌, ◌&&◌, not, if◌then◌else◌}
use Rattle.std.specs.List.{flat_map}
use Rattle.std.specs.Int.{w32}
use Rattle.std.proofs.lemmas.Bool.{eqb-true, eq-eqb}
use Rattle.std.proofs.lemmas.List.{length-append, length-replicate}
use Rattle.wv_base.specs.declared.class_file.PoolEntry.{PoolEntry}
use Rattle.wv_base.specs.declared.form.Form.TheVariants as form
use Rattle.wv_base.specs.declared.insn.Insn.{Insn}
use Rattle.wv_base.specs.declared.insn.Insn.TheVariants as insn
use Rattle.wv_base.specs.Opcodes.{ldc, ldc_w, invokestatic, invokeinterface, goto_w}
use Rattle.wv_insn.specs.declared.raw.Raw.{Raw}
use Rattle.wv_insn.specs.declared.raw.Raw.TheVariants as raw
use Rattle.wv_insn.specs.declared.raw.RawCase.{RawCase}
use Rattle.wv_insn.specs.Spelling.{signed, case, plain_spelling, IsInstruction}
use Rattle.wv_code.specs.Size.{size}
use Rattle.wv_code.specs.Meaning.{Means, widened}
use Rattle.wv_code.proofs.Forms.{only}
use Rattle.wv_code.proofs.Leading.{lead_lengths, case_lengths}

pub four_each : (offsets : List ℤ) → length (flat_map (signed w32) offsets) ≡ 4 * length offsets
four_each [] = refl
four_each (o ∷ offsets) = omega (arith, length-append (signed w32 o) (flat_map (signed w32) offsets), four_each offsets)

pub eight_each : (cases : List RawCase) → length (flat_map case cases) ≡ 8 * length cases
eight_each [] = refl
eight_each (c ∷ cases) = omega (arith, length-append (case c) (flat_map case cases), eight_each cases)

-- a load takes two bytes where its opcode is ldc
load_size : (op o bytes : ℕ) (long t : Bool) → (o == ldc) ≡ t → op ≡ (if t && long then ldc_w else o) → ((op ≡ ldc) × (bytes ≡ 2)) ⊎ ((ldc < op) × (bytes ≡ 3)) → bytes ≡ (if t && not long then 2 else 3)
load_size op o bytes true true e m (inl h) = absurd (omega (arith, m, h.0))
load_size op o bytes true true e m (inr h) = h.1
load_size op o bytes false true e m (inl h) = h.1
load_size op o bytes false true e m (inr h) = let is : o ≡ ldc = eqb-true o ldc e in absurd (omega (arith, m, h.0))
load_size op o bytes long false e m (inl h) = absurd (cc (e, eq-eqb o ldc (sym m ∙ h.0)))
load_size op o bytes long false e m (inr h) = h.1

-- an opcode before the one of another size
before : (op last a b : ℕ) → op < last → (if op == last then a else b) ≡ b
before op last a b lt = by_test (op == last) refl
  where
    by_test : (t : Bool) → (op == last) ≡ t → (if t then a else b) ≡ b
    by_test true e = let is : op ≡ last = eqb-true op last e in absurd (omega arith)
    by_test false e = refl

-- an instruction means itself with another opcode in at most one case
pub written_size : (pool : List PoolEntry) (offsets : List ℕ) (at : ℕ) (r : Raw) (long : Bool) (i : Insn) → IsInstruction r → Means pool offsets at r (widened long i) → length (plain_spelling at r) ≡ size long at i
written_size pool offsets at (raw.Plain op) long (insn.Plain o) is m = refl
written_size pool offsets at (raw.Push op value) long (insn.Push o v) (inl h) m = rw (sym m.0, h.0, only op form.Byte h.0) refl
written_size pool offsets at (raw.Push op value) long (insn.Push o v) (inr h) m = rw (sym m.0, h, only op form.Short h) refl
written_size pool offsets at (raw.Load op number) long (insn.Load o value) (inl h) m = load_size op o _ long (o == ldc) refl m.0 (inl (only op form.Constant h.0, rw h.0 refl))
written_size pool offsets at (raw.Load op number) long (insn.Load o value) (inr h) m = load_size op o _ long (o == ldc) refl m.0 (inr (only op form.WideConstant h, rw h refl))
written_size pool offsets at (raw.Local op slot true) long (insn.Local o s w) is m = rw (sym m.2) refl
written_size pool offsets at (raw.Local op slot false) long (insn.Local o s w) is m = rw (sym m.2) refl
written_size pool offsets at (raw.Inc slot by true) long (insn.Inc s b w) is m = rw (sym m.2) refl
written_size pool offsets at (raw.Inc slot by false) long (insn.Inc s b w) is m = rw (sym m.2) refl
written_size pool offsets at (raw.Branch op d) long (insn.Branch o to) (inl h) m = let lt : o < goto_w = subst (λ (z : ℕ). z < goto_w) m.0 (only op form.Branch h.0) in rw (h.0, before o goto_w 5 3 lt) refl
written_size pool offsets at (raw.Branch op d) long (insn.Branch o to) (inr h) m = rw (sym m.0, h, only op form.WideBranch h) refl
written_size pool offsets at (raw.Table low high other ds) long (insn.Table l to targets) is m = simp (length-append, length-replicate) (omega (arith, four_each ds, lead_lengths offsets at ds targets m.3))
written_size pool offsets at (raw.Lookup other raws) long (insn.Lookup to cases) is m = simp (length-append, length-replicate) (omega (arith, eight_each raws, case_lengths offsets at raws cases m.1))
written_size pool offsets at (raw.Reference op number) long (insn.Reference o owner name descriptor interface) is m =
    let le : op ≤ invokestatic = only op form.Reference is in
    let lt : o < invokeinterface = omega (arith, m.0) in
    sym (before o invokeinterface 5 3 lt)
written_size pool offsets at (raw.Interface number count last) long (insn.Reference o owner name descriptor interface) is m = rw m.0 refl
written_size pool offsets at (raw.Dynamic number) long (insn.Site bootstrap name descriptor) is m = refl
written_size pool offsets at (raw.Class op number) long (insn.Class o class) is m = refl
written_size pool offsets at (raw.NewArray kind) long (insn.NewArray k) is m = refl
written_size pool offsets at (raw.MultiArray number dimensions) long (insn.MultiArray class d) is m = refl
written_size pool offsets at _ long _ is m = absurd m
