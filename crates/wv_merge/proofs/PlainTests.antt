-- What the tests of plain methods tell.
use Rattle.std.proofs.Common.{◌≡◌, ◌↔◌, ℕ, ◌+◌, ◌<◌, ◌≤◌, leb, ◌==◌, List, [], ◌∷◌, ◌++◌, length, get_or, take, drop, None, inl, inr, refl, sym, ap, subst, ◌∙◌, arith, length-drop}
use Rattle.std.proofs.lemmas.Bool.{leb-true, le-leb, eqb-true, eq-eqb}
use Rattle.std.specs.Prelude.{IsTrue, codes}
use Rattle.std.specs.List.{AllByRecursion}
use Rattle.std.proofs.lemmas.List.{drop_all}
use Rattle.wv_base.specs.declared.descriptor.ElementType.TheVariants as elements
use Rattle.wv_base.specs.declared.descriptor.MethodType.{MethodType}
use Rattle.wv_base.specs.declared.insn.Insn.{Insn}
use Rattle.wv_base.specs.declared.insn.Insn.TheVariants as insns
use Rattle.wv_base.specs.Descriptor.{HasWords, parameter_words}
use Rattle.wv_base.specs.Opcodes.{return}
use Rattle.wv_base.proofs.MethodTypes.{method_cancel}
use Rattle.wv_model.specs.PlainCode.{Role, Game, Mixin, EndsWithReturn}
use Rattle.wv_model.specs.PlainMethod.{IsPlainDescriptor}
use Rattle.wv_merge.specs.Plain.{HasRoom, IsReturn}
use Rattle.wv_merge.proofs.ThinLists.{parts_at, same_parts, none_in_parts, all_gone}

-- ---- The words of parameters

void_words : HasWords (codes "()V") 0
void_words = (record { parameters = []; result = None }, (tt, tt), refl, refl)

main_type : MethodType
main_type = record { parameters = record { element = elements.Class (codes "java/lang/String"); dimensions = 1 } ∷ []; result = None }

main_words : HasWords (codes "([Ljava/lang/String;)V") 1
unfolding main_type
main_words = (main_type, (((omega arith, refl), tt), tt), refl, refl)

one_count : (units : List ℕ) (a b : ℕ) → HasWords units a → HasWords units b → a ≡ b
one_count units a b x y =
    let same : x.0 ≡ y.0 = method_cancel x.0 y.0 x.1 y.1 (sym x.2 ∙ y.2) in
    x.3 ∙ ap parameter_words same ∙ sym y.3

pub void_room : (descriptor : List ℕ) (locals : ℕ) → descriptor ≡ codes "()V" → HasRoom descriptor locals
void_room descriptor locals is = subst (λ d. HasRoom d locals) (sym is) (0, void_words, omega arith)

main_room : (descriptor : List ℕ) (locals : ℕ) → descriptor ≡ codes "([Ljava/lang/String;)V" → IsTrue (leb 1 locals) ↔ HasRoom descriptor locals
main_room descriptor locals is =
    let words : HasWords descriptor 1 = subst (λ d. HasWords d 1) (sym is) main_words in
    (λ t. (1, words, leb-true 1 locals t), λ room. le-leb 1 locals (omega (arith, one_count descriptor 1 room.0 words room.1, room.2)))

pub other_room : (role : Role) (descriptor : List ℕ) (locals : ℕ) → IsPlainDescriptor role descriptor → (descriptor ≡ codes "()V" → ⊥) → IsTrue (leb 1 locals) ↔ HasRoom descriptor locals
other_room Game descriptor locals (inl is) other = absurd (other is)
other_room Game descriptor locals (inr is) other = main_room descriptor locals is
other_room Mixin descriptor locals is other = absurd (other is)

-- ---- The end of code

pub ends_here : (code : List Insn) (i : ℕ) (insn : Insn) → i < length code → insn ≡ get_or code i insn → AllByRecursion (λ other. IsReturn other → ⊥) (take i code) → IsReturn insn
    → IsTrue ((i + 1) == length code) ↔ EndsWithReturn code
ends_here code i insn within is before returns =
    let parts = parts_at code i insn within is in (
      λ t.
          let whole : i + 1 ≡ length code = eqb-true (i + 1) (length code) t in
          let none : drop (i + 1) code ≡ [] = drop_all (i + 1) code (omega arith) in
          record { front = take i code; last = parts ∙ ap (λ (x : Insn). take i code ++ x ∷ drop (i + 1) code) returns ∙ ap (λ (t : List Insn). take i code ++ insns.Plain return ∷ t) none; only = before },
      λ ends.
          let same = same_parts IsReturn (take i code) ends.front (drop (i + 1) code) [] insn (insns.Plain return) before ends.only returns refl (sym parts ∙ ends.last) in
          eq-eqb (i + 1) (length code) (omega (arith, ap length same.2, length-drop (i + 1) code)),
    )

pub ends_nowhere : (code : List Insn) (i : ℕ) → length code ≤ i → AllByRecursion (λ other. IsReturn other → ⊥) (take i code) → EndsWithReturn code → ⊥
ends_nowhere code i over none ends =
    none_in_parts IsReturn code ends.front [] (insns.Plain return) (all_gone (λ other. IsReturn other → ⊥) code i over none) ends.last refl
