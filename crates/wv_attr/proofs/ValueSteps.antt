-- Reading one part that may stand where it does.
use Rattle.std.proofs.Common.{◌≡◌, ℕ, ◌+◌, ◌-◌, ◌<◌, ◌≤◌, min, List, [], ◌∷◌, ◌++◌, length, get_or, take, drop, Ok, refl, sym, subst, ap, ◌∙◌, arith, IsTrue}
use Rattle.std.proofs.lemmas.List.{take_all, take-append-drop, take-take}
use Rattle.wv_room.specs.declared.element_count.ElementKind.{ElementKind}
use Rattle.wv_room.specs.declared.element_count.ElementKind.TheVariants as kinds
use Rattle.wv_room.specs.declared.elements.Elements.{Elements}
use Rattle.wv_room.specs.Counts.{elements_with, ElementsFillRoom}
use Rattle.wv_attr.specs.declared.mark.Mark.TheVariants as marks
use Rattle.wv_attr.specs.Marks.{two_bytes, is_constant_tag, mark_bytes}
use Rattle.wv_attr.specs.Steps.{padded, Steps, StepFault, StepStop, Counts}
use Rattle.wv_attr.proofs.Padding.{length-padded, room_after}

module _ (d : ℕ) (besides : Elements) where
  abbrev Fits : ElementKind → ℕ → ℕ → Type 0
  Fits kind n room = ElementsFillRoom (elements_with kind n besides) room

  pub constant_ok : (tag : ℕ) (rest : List ℕ) (missing n : ℕ) → IsTrue (is_constant_tag tag) → d ≤ 255 → n < 65536 → 2 ≤ length rest → two_bytes n ≡ get_or rest 0 0 ∷ get_or rest 1 0 ∷ []
      → Fits kinds.Value 0 (length (take (length rest - 2) (drop 2 rest)) + missing) → Steps kinds.Value d besides (tag ∷ padded rest missing) (Ok (marks.Constant tag n))
  constant_ok tag [] missing n is shallow lt le e f = absurd (omega arith)
  constant_ok tag (a ∷ []) missing n is shallow lt le e f = absurd (omega arith)
  constant_ok tag (a ∷ b ∷ w) missing n is shallow lt le e f = (
    (λ _. shallow),
    record {
      valid = (is, omega arith);
      of_kind = refl;
      within = omega arith;
      fills = subst (λ (k : ℕ). Fits kinds.Value 0 k) (omega (arith, room_after 2 (a ∷ b ∷ w) missing (omega arith))) f;
    },
    ap (λ (t : List ℕ). tag ∷ (t ++ padded w missing)) (sym e),
  )

  pub class_ok : (rest : List ℕ) (missing n : ℕ) → d ≤ 255 → n < 65536 → 2 ≤ length rest → two_bytes n ≡ get_or rest 0 0 ∷ get_or rest 1 0 ∷ [] → Fits kinds.Value 0 (length (take (length rest - 2) (drop 2 rest)) + missing)
      → Steps kinds.Value d besides (99 ∷ padded rest missing) (Ok (marks.Class n))
  class_ok [] missing n shallow lt le e f = absurd (omega arith)
  class_ok (a ∷ []) missing n shallow lt le e f = absurd (omega arith)
  class_ok (a ∷ b ∷ w) missing n shallow lt le e f = (
    (λ _. shallow),
    record {
      valid = omega arith;
      of_kind = refl;
      within = omega arith;
      fills = subst (λ (k : ℕ). Fits kinds.Value 0 k) (omega (arith, room_after 2 (a ∷ b ∷ w) missing (omega arith))) f;
    },
    ap (λ (t : List ℕ). 99 ∷ (t ++ padded w missing)) (sym e),
  )

  pub enum_ok : (rest : List ℕ) (missing m n : ℕ) → d ≤ 255 → m < 65536 → n < 65536 → 4 ≤ length rest → two_bytes m ≡ get_or rest 0 0 ∷ get_or rest 1 0 ∷ [] → two_bytes n ≡ get_or rest 2 0 ∷ get_or rest 3 0 ∷ []
      → Fits kinds.Value 0 (length (take (length rest - 4) (drop 4 rest)) + missing) → Steps kinds.Value d besides (101 ∷ padded rest missing) (Ok (marks.Enum m n))
  enum_ok [] missing m n shallow lt lt2 le e e2 f = absurd (omega arith)
  enum_ok (a ∷ []) missing m n shallow lt lt2 le e e2 f = absurd (omega arith)
  enum_ok (a ∷ b ∷ []) missing m n shallow lt lt2 le e e2 f = absurd (omega arith)
  enum_ok (a ∷ b ∷ x ∷ []) missing m n shallow lt lt2 le e e2 f = absurd (omega arith)
  enum_ok (a ∷ b ∷ x ∷ y ∷ w) missing m n shallow lt lt2 le e e2 f = (
    (λ _. shallow),
    record {
      valid = (omega arith, omega arith);
      of_kind = refl;
      within = omega arith;
      fills = subst (λ (k : ℕ). Fits kinds.Value 0 k) (omega (arith, room_after 4 (a ∷ b ∷ x ∷ y ∷ w) missing (omega arith))) f;
    },
    ap (λ (t : List ℕ). 101 ∷ (t ++ x ∷ y ∷ padded w missing)) (sym e) ∙ ap (λ (t : List ℕ). 101 ∷ (two_bytes m ++ (t ++ padded w missing))) (sym e2),
  )

  pub nested_ok : (rest : List ℕ) (missing : ℕ) → d ≤ 255 → Fits kinds.Annotation 1 (length rest + missing) → Steps kinds.Value d besides (64 ∷ padded rest missing) (Ok marks.Nested)
  nested_ok rest missing shallow f = (
    (λ _. shallow),
    record { valid = tt; of_kind = refl; within = omega arith; fills = subst (λ (k : ℕ). Fits kinds.Annotation 1 k) (omega (arith, length-padded rest missing)) f },
    refl,
  )

  -- a count in front
  front : (bytes : List ℕ) (n : ℕ) → take 2 bytes ≡ two_bytes n → bytes ≡ two_bytes n ++ drop 2 bytes
  front bytes n e = sym (take-append-drop 2 bytes) ∙ ap (λ (t : List ℕ). t ++ drop 2 bytes) e

  pub array_ok : (bytes : List ℕ) (n : ℕ) → d ≤ 255 → 2 ≤ length bytes → Counts kinds.Value besides bytes (Ok n) → Steps kinds.Value d besides (91 ∷ bytes) (Ok (marks.Array n))
  array_ok bytes n shallow le c = (
    (λ _. shallow),
    record { valid = omega (arith, c.0.narrow); of_kind = refl; within = omega arith; fills = subst (λ (k : ℕ). Fits kinds.Value n k) (omega arith) c.0.fills },
    ap (λ (t : List ℕ). 91 ∷ t) (front bytes n c.1),
  )

  pub list_ok : (bytes : List ℕ) (n : ℕ) → 2 ≤ length bytes → Counts kinds.Annotation besides bytes (Ok n) → Steps kinds.Parameter d besides bytes (Ok (marks.List n))
  list_ok bytes n le c = (
    (λ e. absurd cc),
    record { valid = omega (arith, c.0.narrow); of_kind = refl; within = omega arith; fills = c.0.fills },
    front bytes n c.1,
  )

  pub name_ok : (bytes : List ℕ) (missing n : ℕ) → 2 ≤ length bytes → two_bytes n ≡ get_or bytes 0 0 ∷ get_or bytes 1 0 ∷ [] → padded bytes missing ≡ two_bytes n ++ drop 2 (padded bytes missing)
  name_ok [] missing n le e = absurd (omega arith)
  name_ok (a ∷ []) missing n le e = absurd (omega arith)
  name_ok (a ∷ b ∷ w) missing n le e = ap (λ (t : List ℕ). t ++ padded w missing) (sym e)

  pub annotation_ok : (bytes : List ℕ) (missing class n : ℕ) → class < 65536 → 4 ≤ length bytes → two_bytes class ≡ get_or bytes 0 0 ∷ get_or bytes 1 0 ∷ []
      → Counts kinds.Pair besides (padded (take (length bytes - 2) (drop 2 bytes)) missing) (Ok n) → Steps kinds.Annotation d besides (padded bytes missing) (Ok (marks.Annotation class n))
  annotation_ok [] missing class n lt le e c = absurd (omega arith)
  annotation_ok (a ∷ []) missing class n lt le e c = absurd (omega arith)
  annotation_ok (a ∷ b ∷ w) missing class n lt le e c =
      let all : take (length (a ∷ b ∷ w) - 2) w ≡ w = take_all (length (a ∷ b ∷ w) - 2) w (omega arith) in
      let is = subst (λ (t : List ℕ). Counts kinds.Pair besides (padded t missing) (Ok n)) all c in
      let long = length-padded w missing in (
        (λ e. absurd cc),
        record { valid = (omega arith, omega (arith, is.0.narrow)); of_kind = refl; within = omega arith; fills = subst (λ (k : ℕ). Fits kinds.Pair n k) (omega arith) is.0.fills },
        ap (λ (t : List ℕ). a ∷ b ∷ t) (front (padded w missing) n is.1) ∙ ap (λ (t : List ℕ). t ++ (two_bytes n ++ drop 2 (padded w missing))) (sym e),
      )

-- where a fault lies behind those bytes that are there, it is their end
pub stop_at : (kind : ElementKind) (d : ℕ) (besides : Elements) (bytes : List ℕ) (there place stop : ℕ) → stop ≡ min place there → there ≤ length bytes → StepFault kind d besides bytes place → StepStop kind d besides bytes there stop
stop_at kind d besides bytes there place stop e le f =
    let near = f.within in
    record {
      within = omega arith;
      begins = λ pos.
          let b = f.begins (omega arith) in
          let less : stop ≤ place = omega arith in
          (b.0, b.1, b.2, sym (take-take stop place (mark_bytes b.0) less) ∙ ap (take stop) b.3 ∙ take-take stop place bytes less);
      none = λ lt. let same : place ≡ stop = omega arith in (subst (λ (k : ℕ). StepFault kind d besides bytes k) same f).none;
      more = λ over. omega arith;
    }
