-- Reading an instruction that fits the room that is left of the code.
use Rattle.std.proofs.Common.{◌≡◌, ℕ, suc, ◌+◌, ◌<◌, ◌≤◌, Bool, true, false, cond, leb, List, [], ◌∷◌, length, Option, Some, Result, Ok, Err, refl, ap, ◌∙◌, inl, inr, arith}
use Rattle.std.proofs.lemmas.Bool.{cases_Bool}
use Rattle.std.proofs.lemmas.List.{length-append}
use Rattle.wv_base.specs.declared.form.Form.{Form}
use Rattle.wv_base.specs.declared.form.Form.TheVariants as form
use Rattle.wv_base.specs.Instructions.{form_of}
use Rattle.wv_base.specs.Opcodes.{nop, iload}
use Rattle.wv_pool.specs.Reading.{◌>>=◌}
use Rattle.wv_insn.specs.declared.raw.Raw.{Raw}
use Rattle.wv_insn.specs.Spelling.{Spells}
use Rattle.wv_insn.specs.Reading.{opcode_at, wide_at, operands_at, instruction_at}
use Rattle.wv_insn.proofs.Readers.{option_is}
use Rattle.wv_insn.proofs.Operands.{Opcode, nop_is, iload_is, widened, Widened, Widths, widths_at, widths, Row, operands}
use Rattle.wv_insn.proofs.Rows.{rows_spelled, spelled_rows}
use Rattle.wv_code.specs.Fitting.{least_behind, with_form, byte_in, opcode_in, wide_room, operands_room, room_at, insn_at}
use Rattle.wv_frames.proofs.Readers.{Reads, Then, then, resized, renamed, alike}
use Rattle.wv_code.proofs.RoomReads.{sized, byte_reads, chosen_ok, bind_same, bind_tested}
use Rattle.wv_code.proofs.SwitchReads.{plain_then, then_plain, table_in, table_reads, table_alike, lookup_in, lookup_reads, lookup_alike}

-- ---- behind `wide`

abbrev wide_needs : ℕ × Bool → ℕ
wide_needs x = cond x.1 4 2

least_wide : (increment : Bool) → 2 ≤ cond increment 4 2
least_wide true = omega arith
least_wide false = omega arith

widths_long : (op : ℕ) (increment : Bool) (r : Raw) (text : List ℕ) → Widths op increment r text → length text ≡ cond increment 4 2
widths_long op false r text t = ap length t.2.1
widths_long op true r text t = omega (arith, ap length t.parts, length-append t.front t.back, ap length t.first_is.1, ap length t.second_is.2.1)

abbrev wide_in : ℕ → ℕ → List ℕ → Result (Raw × List ℕ) ℕ
wide_in tail missing bytes = byte_in (λ op. widened op (form_of op)) wide_needs tail missing bytes >>= λ x. widths_at x.0.0 x.0.1 x.1

wide_text_reads : (tail : ℕ) → Reads (wide_in tail) (Then Widened (λ x. Widths x.0 x.1)) (λ n. 2 + tail < n) (λ _ m. tail ≤ m)
wide_text_reads tail = then (λ x missing bytes. widths_at x.0 x.1 bytes)
    (byte_reads (λ op. widened op (form_of op)) wide_needs tail 2 iload (iload, false) (omega arith) (rw iload_is refl) refl (λ b x e. least_wide x.1))
    (λ x. sized (wide_needs x) tail (widths_long x.0 x.1) (widths x.0 x.1))

wide_reads : (at op tail : ℕ) → Reads (wide_in tail) (Row at op form.Wide) (λ n. 3 + tail ≤ n) (λ _ m. tail ≤ m)
wide_reads at op tail =
    resized (λ n. 2 + tail < n) (λ n. 3 + tail ≤ n) (λ n le. omega (arith, le)) (λ n lt. omega (arith, lt))
    (renamed (Then Widened (λ x. Widths x.0 x.1)) (Row at op form.Wide) (plain_then (λ x r text t. t)) (then_plain (λ x r text t. t)) (wide_text_reads tail))

wide_by_form : (tail missing op : ℕ) (rest : List ℕ) (f : Option Form) → form_of op ≡ f → (wide_room tail missing (op ∷ rest) >>= λ u. wide_at (op ∷ rest)) ≡ wide_in tail missing (op ∷ rest)
unfolding wide_room wide_at
wide_by_form tail missing op rest (Some form.Local) e = elim (cases_Bool (leb (2 + tail) (length rest + missing))) [
  | inl fits ↦ rw (e, fits) refl
  | inr fails ↦ rw (e, fails) refl
]
wide_by_form tail missing op rest (Some form.Increment) e = elim (cases_Bool (leb (4 + tail) (length rest + missing))) [
  | inl fits ↦ rw (e, fits) refl
  | inr fails ↦ rw (e, fails) refl
]
wide_by_form tail missing op rest _ e = rw e refl

wide_alike : (tail missing : ℕ) (bytes : List ℕ) → (wide_room tail missing bytes >>= λ u. wide_at bytes) ≡ wide_in tail missing bytes
unfolding wide_room wide_at
wide_alike tail missing [] = refl
wide_alike tail missing (op ∷ rest) = wide_by_form tail missing op rest (form_of op) refl

-- ---- the operands of each form

abbrev operands_in : ℕ → ℕ → ℕ → Form → ℕ → List ℕ → Result (Raw × List ℕ) ℕ
operands_in at tail op form.Table missing bytes = table_in at tail missing bytes
operands_in at tail op form.Lookup missing bytes = lookup_in at tail missing bytes
operands_in at tail op form.Wide missing bytes = wide_in tail missing bytes
operands_in at tail op f missing bytes = operands_at at op f bytes

operands_reads : (at op tail : ℕ) (f : Form) → Reads (operands_in at tail op f) (Row at op f) (λ n. least_behind at f + tail ≤ n) (λ _ m. tail ≤ m)
operands_reads at op tail form.Plain = sized 0 tail (λ r text t. ap length t.1) (operands at op form.Plain)
operands_reads at op tail form.Byte = sized 1 tail (λ r text t. ap length t.2.1) (operands at op form.Byte)
operands_reads at op tail form.Short = sized 2 tail (λ r text t. ap length t.2.1) (operands at op form.Short)
operands_reads at op tail form.Constant = sized 1 tail (λ r text t. ap length t.2.1) (operands at op form.Constant)
operands_reads at op tail form.WideConstant = sized 2 tail (λ r text t. ap length t.2.1) (operands at op form.WideConstant)
operands_reads at op tail form.Local = sized 1 tail (λ r text t. ap length t.2.1) (operands at op form.Local)
operands_reads at op tail form.Increment = sized 2 tail (λ r text t. omega (arith, ap length t.parts, length-append t.front t.back, ap length t.first_is.1, ap length t.second_is.2.1)) (operands at op form.Increment)
operands_reads at op tail form.Branch = sized 2 tail (λ r text t. ap length t.2.1) (operands at op form.Branch)
operands_reads at op tail form.WideBranch = sized 4 tail (λ r text t. ap length t.2.1) (operands at op form.WideBranch)
operands_reads at op tail form.Table = table_reads at op tail
operands_reads at op tail form.Lookup = lookup_reads at op tail
operands_reads at op tail form.Reference = sized 2 tail (λ r text t. ap length t.2.1) (operands at op form.Reference)
operands_reads at op tail form.Interface = sized 4 tail
    (λ r text t.
    let u = t.second_is in
    omega (arith, ap length t.parts, length-append t.front t.back, ap length t.first_is.1, ap length u.parts, length-append u.front u.back, ap length u.first_is.1, ap length u.second_is.2.1))
    (operands at op form.Interface)
operands_reads at op tail form.Dynamic = sized 4 tail
    (λ r text t.
    let u = t.second_is in
    omega (arith, ap length t.parts, length-append t.front t.back, ap length t.first_is.1, ap length u.parts, length-append u.front u.back, ap length u.first_is.0, ap length u.second_is.2.0))
    (operands at op form.Dynamic)
operands_reads at op tail form.Class = sized 2 tail (λ r text t. ap length t.2.1) (operands at op form.Class)
operands_reads at op tail form.Array = sized 1 tail (λ r text t. ap length t.2.1) (operands at op form.Array)
operands_reads at op tail form.MultiArray = sized 3 tail (λ r text t. omega (arith, ap length t.parts, length-append t.front t.back, ap length t.first_is.1, ap length t.second_is.2.1)) (operands at op form.MultiArray)
operands_reads at op tail form.Wide = wide_reads at op tail

operands_alike : (at tail op : ℕ) (f : Form) (missing : ℕ) (bytes : List ℕ) → (operands_room at f tail missing bytes >>= λ u. operands_at at op f bytes) ≡ operands_in at tail op f missing bytes
unfolding operands_at
operands_alike at tail op form.Table missing bytes = table_alike at tail missing bytes
operands_alike at tail op form.Lookup missing bytes = lookup_alike at tail missing bytes
operands_alike at tail op form.Wide missing bytes = wide_alike tail missing bytes
operands_alike at tail op _ missing bytes = refl

-- ---- the instruction

opcode_is : (at tail missing : ℕ) (bytes : List ℕ) (x : (ℕ × Form) × List ℕ) → opcode_in at tail missing bytes ≡ Ok x → opcode_at bytes ≡ Ok x
unfolding opcode_at
opcode_is at tail missing [] x e = absurd cc
opcode_is at tail missing (op ∷ rest) x e = elim (option_is (form_of op)) [
  | inl none ↦ absurd (let failed : Path (Result ((ℕ × Form) × List ℕ) ℕ) (Err (suc (length rest))) (Ok x) = rw none at e in cc)
  | inr some ↦
      let test : Bool = leb (least_behind at some.0 + tail) (length rest + missing) in
      let found : Path (Result ((ℕ × Form) × List ℕ) ℕ) (cond test (Ok ((op, some.0), rest)) (Err (suc (length rest)))) (Ok x) = rw some.1 at e in
      rw some.1 (ap Ok (chosen_ok test (suc (length rest)) ((op, some.0), rest) x found).1)
]

abbrev insn_in : ℕ → ℕ → ℕ → List ℕ → Result (Raw × List ℕ) ℕ
insn_in at tail missing bytes = opcode_in at tail missing bytes >>= λ x. operands_in at tail x.0.0 x.0.1 missing x.1

insn_alike : (at tail missing : ℕ) (bytes : List ℕ) → insn_at at tail missing bytes ≡ insn_in at tail missing bytes
unfolding insn_at room_at instruction_at
insn_alike at tail missing bytes =
    bind_tested (opcode_in at tail missing bytes) (opcode_at bytes) (λ x. operands_room at x.0.1 tail missing x.1) (λ x. operands_at at x.0.0 x.0.1 x.1) (opcode_is at tail missing bytes)
    ∙ bind_same (opcode_in at tail missing bytes) _ _ (λ x. operands_alike at tail x.0.0 x.0.1 missing x.1)

insn_text_reads : (at tail : ℕ) → Reads (insn_in at tail) (Then Opcode (λ x. Row at x.0 x.1)) (λ n. 0 + tail < n) (λ _ m. tail ≤ m)
insn_text_reads at tail = then (λ x. operands_in at tail x.0 x.1)
    (byte_reads (λ op. with_form op (form_of op)) (λ x. least_behind at x.1) tail 0 nop (nop, form.Plain) (omega arith) (rw nop_is refl) refl (λ b x e. omega arith))
    (λ x. operands_reads at x.0 tail x.1)

pub insn_reads : (at tail : ℕ) → Reads (insn_at at tail) (Spells at) (λ n. tail < n) (λ _ m. tail ≤ m)
insn_reads at tail =
    alike (insn_in at tail) (insn_at at tail) (insn_alike at tail)
    (resized (λ n. 0 + tail < n) (λ n. tail < n) (λ n lt. omega (arith, lt)) (λ n lt. omega (arith, lt))
    (renamed (Then Opcode (λ x. Row at x.0 x.1)) (Spells at) (λ r text t. rows_spelled at r text (plain_then (λ x q front u. u) r text t)) (λ r text s. then_plain (λ x q front u. u) r text (spelled_rows at r text s)) (insn_text_reads at tail)))
