-- What sound operands of instructions name.
use Rattle.std.proofs.Common.{◌≡◌, ℕ, ◌+◌, ◌<◌, ◌≤◌, Bool, true, false, cond, List, Option, Some, None, refl, sym, ap, subst, ◌∙◌, ◌⊎◌, inl, inr, arith}
use Rattle.std.specs.Prelude.{nat_le, IsSomeAnd, IfOk, Result, Ok, Err}
use Rattle.std.specs.Option.{option_map, option_and_then}
use Rattle.std.proofs.lemmas.Bool.{cases_lt, cases_eq}
use Rattle.std.proofs.lemmas.Bool.Decides.{nat_tests}
use Rattle.wv_base.specs.declared.class_file.PoolEntry.{PoolEntry}
use Rattle.wv_base.specs.declared.class_file.PoolEntry.TheVariants as entries
use Rattle.wv_base.specs.declared.constant.Const.{Const}
use Rattle.wv_base.specs.declared.constant.Const.TheVariants as constants
use Rattle.wv_base.specs.declared.constant.MemberReference.{MemberReference}
use Rattle.wv_base.specs.declared.insn.Insn.TheVariants as insn
use Rattle.wv_base.specs.Opcodes.{putfield, invokevirtual, invokestatic, invokeinterface}
use Rattle.wv_base.specs.Descriptor.{IsFieldDescriptor, IsMethodDescriptor, HasWords, parameter_words}
use Rattle.wv_insn.specs.declared.raw.Raw.TheVariants as raw
use Rattle.wv_pool.specs.References.{entry_of, text_of, class_in, pair_of, IsText, HasAngle, IsPool}
use Rattle.wv_pool.specs.Constants.{class_name, both, pair_texts, member_of, constant_in, constant_of}
use Rattle.wv_pool.proofs.Behind.{some_is, then_some, interface_entry}
use Rattle.wv_pool.proofs.SoundPools.{some_and, pair_entry, sound_at}
use Rattle.wv_code.specs.Constants.{member_constant}
use Rattle.wv_code.specs.Meaning.{Means}
use Rattle.wv_code.specs.Breaks.{Loads, Takes, NamesClass, InsnBreaks, count as not_counted, zero as not_zero}
use Rattle.wv_code.proofs.Shapes.{words_same}

-- what is answered still meets a weaker fact
pub ok_map : {A E : Type 0} (P Q : A → Type 0) (r : Result A E) → ((x : A) → P x → Q x) → IfOk r P → IfOk r Q
ok_map P Q (Ok x) f h = f x h
ok_map P Q (Err e) f h = tt

-- ---- classes

entry_class : (pool : List PoolEntry) (o : Option PoolEntry) (name : List ℕ) → option_and_then (text_of pool) (class_in o) ≡ Some name → option_and_then (constant_in pool) o ≡ Some (constants.Class name)
entry_class pool None name e = absurd cc
entry_class pool (Some (entries.Class n)) name e = ap (option_map (λ t. constants.Class t)) e
entry_class pool (Some _) name e = absurd cc

pub class_constant : (pool : List PoolEntry) (n : ℕ) (name : List ℕ) → class_name pool n ≡ Some name → constant_of pool n ≡ Some (constants.Class name)
class_constant pool n name e = entry_class pool (entry_of pool n) name e

pub no_class : (pool : List PoolEntry) (n : ℕ) → ((NamesClass pool n → ⊥) → ⊥) → class_name pool n ≡ None → ⊥
no_class pool n h none = h (λ named. let e = named.1 in cc)

-- ---- constants that are loaded

pub not_loaded : (pool : List PoolEntry) (op n : ℕ) → ((Loads pool op n → ⊥) → ⊥) → constant_of pool n ≡ None → ⊥
not_loaded pool op n h none = h (λ loads. let e = loads.1 in cc)

-- ---- members

-- the kind of member that an opcode takes, by what the number names
pub takes_field : (pool : List PoolEntry) (op n : ℕ) (m : MemberReference) → ((Takes pool op n → ⊥) → ⊥) → constant_of pool n ≡ Some (constants.Field m) → op ≤ putfield
takes_field pool op n m h named = elim (cases_lt putfield op) [
  | inl above ↦ absurd (h (λ takes. other takes.0 takes.1 above))
  | inr below ↦ below
]
  where
    other : (r : MemberReference) →
        ((op ≤ putfield) × (constant_of pool n ≡ Some (constants.Field r))) ⊎ ((putfield < op) × (constant_of pool n ≡ Some (constants.Method r false))) ⊎ ((invokevirtual < op) × (op ≤ invokestatic) × (constant_of pool n ≡ Some (constants.Method r true)))
        → putfield < op → ⊥
    other r (inl t) above = omega (arith, t.0)
    other r (inr (inl t)) above = let e = t.1 in cc
    other r (inr (inr t)) above = let e = t.2 in cc

pub takes_method : (pool : List PoolEntry) (op n : ℕ) (m : MemberReference) (interface : Bool) → ((Takes pool op n → ⊥) → ⊥) → constant_of pool n ≡ Some (constants.Method m interface) → putfield < op
takes_method pool op n m interface h named = elim (cases_lt putfield op) [
  | inl above ↦ above
  | inr below ↦ absurd (h (λ takes. other takes.0 takes.1 below))
]
  where
    other : (r : MemberReference) →
        ((op ≤ putfield) × (constant_of pool n ≡ Some (constants.Field r))) ⊎ ((putfield < op) × (constant_of pool n ≡ Some (constants.Method r false))) ⊎ ((invokevirtual < op) × (op ≤ invokestatic) × (constant_of pool n ≡ Some (constants.Method r true)))
        → op ≤ putfield → ⊥
    other r (inl t) below = let e = t.1 in cc
    other r (inr (inl t)) below = omega (arith, t.0)
    other r (inr (inr t)) below = omega (arith, t.0)

pub field_constant : (op : ℕ) (m : MemberReference) → op ≤ putfield → member_constant op m false ≡ constants.Field m
field_constant op m le = let t : nat_le op putfield ≡ true = grind (arith, nat_tests) in ap (λ (b : Bool). cond b (constants.Field m) (constants.Method m false)) t

pub method_constant : (op : ℕ) (m : MemberReference) (interface : Bool) → putfield < op → member_constant op m interface ≡ constants.Method m interface
method_constant op m interface lt = let t : nat_le op putfield ≡ false = grind (arith, nat_tests) in ap (λ (b : Bool). cond b (constants.Field m) (constants.Method m interface)) t

pub field_means : (pool : List PoolEntry) (offsets : List ℕ) (at op n : ℕ) (m : MemberReference) → ((Takes pool op n → ⊥) → ⊥) → constant_of pool n ≡ Some (constants.Field m) → Means pool offsets at (raw.Reference op n) (insn.Reference op m.owner m.name m.descriptor false)
field_means pool offsets at op n m h named =
    let le = takes_field pool op n m h named in
    (refl, (named ∙ ap (λ (c : Const). Some c) (sym (field_constant op m le)), tt), λ _. refl)

pub method_means : (pool : List PoolEntry) (offsets : List ℕ) (at op n : ℕ) (m : MemberReference) (interface : Bool) → ((Takes pool op n → ⊥) → ⊥) → constant_of pool n ≡ Some (constants.Method m interface)
    → Means pool offsets at (raw.Reference op n) (insn.Reference op m.owner m.name m.descriptor interface)
method_means pool offsets at op n m interface h named =
    let lt : putfield < op = takes_method pool op n m interface h named in
    (refl, (named ∙ ap (λ (c : Const). Some c) (sym (method_constant op m interface lt)), tt), λ below. absurd (omega arith))

-- ---- methods of interfaces

text_behind : (a : Option (List ℕ)) (x y : Option (List ℕ)) (m : MemberReference) → member_of a (both x y) ≡ Some m → y ≡ Some m.descriptor
text_behind None x y m e = absurd cc
text_behind (Some a) None y m e = absurd cc
text_behind (Some a) (Some x) None m e = absurd cc
text_behind (Some a) (Some x) (Some y) m e = let same = some_is (record { owner = a; name = x; descriptor = y }) m e in ap (λ (r : MemberReference). Some r.descriptor) same

of_either : (pool : List PoolEntry) (d : ℕ) (descriptor : List ℕ) → text_of pool d ≡ Some descriptor → (IsText pool d IsFieldDescriptor → ⊥) → IsText pool d (λ x. IsFieldDescriptor x ⊎ IsMethodDescriptor x) → IsMethodDescriptor descriptor
of_either pool d descriptor text no_field either =
    let s = some_and (text_of pool d) (λ x. IsFieldDescriptor x ⊎ IsMethodDescriptor x) either in
    let same : s.0 ≡ descriptor = some_is s.0 descriptor (sym s.1 ∙ text) in
    elim s.2 [
      | inl field ↦ absurd (no_field (subst (λ (o : Option (List ℕ)). IsSomeAnd o IsFieldDescriptor) (sym s.1) field))
      | inr method ↦ subst IsMethodDescriptor same method
    ]

-- the descriptor of a sound method is a method's
pub method_descriptor : (pool : List PoolEntry) (n : ℕ) (m : MemberReference) → IsPool pool → constant_of pool n ≡ Some (constants.Method m true) → IsMethodDescriptor m.descriptor
method_descriptor pool n m sound named =
    let t = then_some (constant_in pool) (entry_of pool n) (constants.Method m true) named in
    let i = interface_entry pool t.0 m t.2 in
    let entry : entry_of pool n ≡ Some (entries.InterfaceMethod i.0 i.1) = t.1 ∙ ap (λ (e : PoolEntry). Some e) i.2 in
    let holds = sound_at pool sound.1 n (entries.InterfaceMethod i.0 i.1) entry in
    let pair = some_and (pair_of pool i.1) (λ p. (IsText pool p.1 IsFieldDescriptor → ⊥) × (IsText pool p.0 HasAngle → ⊥)) holds.1 in
    let there : member_of (class_name pool i.0) (both (text_of pool pair.0.0) (text_of pool pair.0.1)) ≡ Some m = ap (λ (o : Option (ℕ × ℕ)). member_of (class_name pool i.0) (pair_texts pool o)) (sym pair.1) ∙ i.3 in
    let text : text_of pool pair.0.1 ≡ Some m.descriptor = text_behind (class_name pool i.0) (text_of pool pair.0.0) (text_of pool pair.0.1) m there in
    let names = sound_at pool sound.1 i.1 (entries.NameAndType pair.0.0 pair.0.1) (pair_entry (entry_of pool i.1) pair.0 pair.1) in
    of_either pool pair.0.1 m.descriptor text pair.2.0 names.1

-- the count of the arguments' words, where it is not other than it must be
pub counted : (descriptor : List ℕ) (count : ℕ) → IsMethodDescriptor descriptor → (((words : ℕ) → HasWords descriptor words → count ≡ words + 1 → ⊥) → ⊥) → (words : ℕ) × HasWords descriptor words × (count ≡ words + 1)
counted descriptor count method h =
    let words : ℕ = parameter_words method.0 in
    let has : HasWords descriptor words = (method.0, method.1, method.2, refl) in
    elim (cases_eq count (words + 1)) [
      | inl e ↦ (words, has, e)
      | inr ne ↦ absurd (h (λ other others e. ne (e ∙ ap (λ (z : ℕ). z + 1) (words_same descriptor other words others has))))
    ]

pub interface_means : (pool : List PoolEntry) (offsets : List ℕ) (at n count last : ℕ) (m : MemberReference) → constant_of pool n ≡ Some (constants.Method m true) → IsMethodDescriptor m.descriptor
    → ((place : ℕ) → InsnBreaks pool offsets at (raw.Interface n count last) place → ⊥) → Means pool offsets at (raw.Interface n count last) (insn.Reference invokeinterface m.owner m.name m.descriptor true)
interface_means pool offsets at n count last m named method sound = (
  refl,
  (named ∙ ap (λ (c : Const). Some c) (sym (method_constant invokeinterface m true (omega arith))), tt),
  counted m.descriptor count method (λ none. sound 3 (not_counted (m, named, refl) none)),
  elim (cases_eq last 0) [ inl e ↦ e | inr ne ↦ absurd (sound 4 (not_zero ne)) ],
)
