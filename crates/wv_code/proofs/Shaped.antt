-- Instructions that are read are formed, where no item of them breaks what it must meet.
use Rattle.std.proofs.Common.{◌≡◌, ℕ, suc, ◌+◌, ◌*◌, ◌<◌, ◌≤◌, ◌^◌, ℤ, Bool, true, false, cond, leb, List, [], ◌∷◌, length, Option, Some, refl, sym, ap, subst, ◌∙◌, ◌⊎◌, inl, inr, arith, rules}
use Rattle.std.specs.Prelude.{slice_get, pos, ◌<ℤ◌, ◌≤ℤ◌, FitsSigned}
use Rattle.std.specs.Int.{w32}
use Rattle.std.specs.List.{AllByRecursion}
use Rattle.std.proofs.lemmas.Bool.{cases_lt, cases_eq, leb-true, leb-false}
use Rattle.std.proofs.lemmas.Int.{ints}
use Rattle.wv_base.specs.declared.class_file.PoolEntry.{PoolEntry}
use Rattle.wv_base.specs.declared.constant.Const.{Const}
use Rattle.wv_base.specs.declared.constant.Const.TheVariants as constants
use Rattle.wv_base.specs.declared.constant.MemberReference.{MemberReference}
use Rattle.wv_base.specs.declared.form.Form.{Form}
use Rattle.wv_base.specs.declared.form.Form.TheVariants as form
use Rattle.wv_base.specs.declared.insn.Case.{Case}
use Rattle.wv_base.specs.declared.insn.Insn.{Insn}
use Rattle.wv_base.specs.Opcodes.{ldc, ldc_w, ldc2_w, getstatic, putfield, invokevirtual, invokestatic, invokeinterface}
use Rattle.wv_base.specs.Instructions.{form_of}
use Rattle.wv_insn.specs.declared.raw.Raw.{Raw}
use Rattle.wv_insn.specs.declared.raw.Raw.TheVariants as raw
use Rattle.wv_insn.specs.declared.raw.RawCase.{RawCase}
use Rattle.wv_insn.specs.Spelling.{padding, targets, IsTyped, IsInstruction}
use Rattle.wv_pool.specs.Allowed.{IsAllowed}
use Rattle.wv_pool.specs.Constants.{constant_of}
use Rattle.wv_pool.specs.References.{IsPool}
use Rattle.wv_pool.proofs.Behind.{class_is as class_behind}
use Rattle.wv_code.specs.Breaks.{Loads, Takes, TakesInterface, InsnBreaks, load as not_loaded, table_low, lookup_key, reference as not_taken, interface as not_interface, array as not_array, dimensions as not_dimensions}
use Rattle.wv_code.specs.Code.{Follow, AllMean}
use Rattle.wv_code.specs.Constants.{member_constant, constants_in}
use Rattle.wv_code.specs.Formed.{loaded_words, LoadsWords, TakesMember, dimensions_of, KeysAscend, IsShaped, IsFormed, AreFormed}
use Rattle.wv_code.specs.Meaning.{AllLead, AllCasesLead, Means}
use Rattle.wv_code.proofs.AllowedConstants.{constant_allowed}
use Rattle.wv_code.proofs.Forms.{only}
use Rattle.wv_code.proofs.Leading.{lead_lengths}
use Rattle.wv_code.proofs.OneBody.{one_value, plain_is, push_is, load_is, local_is, inc_is, branch_is, table_is, lookup_is, reference_is, interface_is, site_is, class_is, array_is, multi_is}
use Rattle.wv_code.proofs.Operands.{method_constant}
use Rattle.wv_code.proofs.Switches.{high_is}

-- ---- what is either so or not is so where it isn't not so

stable : {A : Type 0} → A ⊎ (A → ⊥) → ((A → ⊥) → ⊥) → A
stable (inl a) h = a
stable (inr none) h = absurd (h none)

both_or : {A B : Type 0} → A ⊎ (A → ⊥) → B ⊎ (B → ⊥) → (A × B) ⊎ (A × B → ⊥)
both_or (inl a) (inl b) = inl (a, b)
both_or (inl a) (inr none) = inr (λ h. none h.1)
both_or (inr none) b = inr (λ h. none h.0)

one_or : {A B : Type 0} → A ⊎ (A → ⊥) → B ⊎ (B → ⊥) → (A ⊎ B) ⊎ (A ⊎ B → ⊥)
one_or (inl a) b = inl (inl a)
one_or (inr none) (inl b) = inl (inr b)
one_or (inr none) (inr neither) = inr (λ h. elim h [ inl a ↦ none a | inr b ↦ neither b ])

le_or : (m n : ℕ) → (m ≤ n) ⊎ (m ≤ n → ⊥)
le_or m n = elim (cases_lt n m) [ inl lt ↦ inr (λ le. omega arith) | inr le ↦ inl le ]

-- ---- loads

loads_or : (op words : ℕ) → LoadsWords op words ⊎ (LoadsWords op words → ⊥)
loads_or op words = one_or (both_or (one_or (cases_eq op ldc) (cases_eq op ldc_w)) (cases_eq words 1)) (both_or (cases_eq op ldc2_w) (cases_eq words 2))

load_shaped : (pool : List PoolEntry) (op n : ℕ) (c : Const) → ((Loads pool op n → ⊥) → ⊥) → constant_of pool n ≡ Some c → LoadsWords op (loaded_words c)
load_shaped pool op n c h e = stable (loads_or op (loaded_words c)) (λ none. h (λ l. none (subst (λ (d : Const). LoadsWords op (loaded_words d)) (one_value (constant_of pool n) l.0 c l.1 e) l.2)))

-- ---- targets

leads_below : (offsets : List ℕ) (at : ℕ) (distances : List ℤ) (tos : List ℕ) → AllLead offsets at distances tos → AllByRecursion (λ to. to < length offsets) tos
leads_below offsets at [] [] h = tt
leads_below offsets at [] (y ∷ tos) h = absurd h
leads_below offsets at (x ∷ distances) [] h = absurd h
leads_below offsets at (x ∷ distances) (y ∷ tos) h = (h.0.0, leads_below offsets at distances tos h.1)

cases_below : (offsets : List ℕ) (at : ℕ) (raws : List RawCase) (cases : List Case) → AllCasesLead offsets at raws cases → AllByRecursion (λ c. c.to < length offsets) cases × (length raws ≡ length cases)
cases_below offsets at [] [] h = (tt, refl)
cases_below offsets at [] (y ∷ cases) h = absurd h
cases_below offsets at (x ∷ raws) [] h = absurd h
cases_below offsets at (x ∷ raws) (y ∷ cases) h = let rest = cases_below offsets at raws cases h.2 in ((h.1.0, rest.0), ap suc rest.1)

-- no key is at or below the one before
abbrev Rises : List RawCase → Type 0
Rises raws = (k : ℕ) (before case : RawCase) → slice_get raws k ≡ Some before → slice_get raws (k + 1) ≡ Some case → case.key ≤ℤ before.key → ⊥

rises_later : (r : RawCase) (raws : List RawCase) → Rises (r ∷ raws) → Rises raws
rises_later r raws h k before case e f le =
    let places : suc (k + 1) ≡ suc k + 1 = omega arith in
    h (suc k) before case e (subst (λ (j : ℕ). slice_get (r ∷ raws) j ≡ Some case) places f) le

key_above : (a b r s : ℤ) → r ≡ a → s ≡ b → (s ≤ℤ r → ⊥) → a <ℤ b
key_above a b r s e f h = grind (arith, ints)

keys_ascend : (offsets : List ℕ) (at : ℕ) (raws : List RawCase) (cases : List Case) → AllCasesLead offsets at raws cases → Rises raws → KeysAscend cases
keys_ascend offsets at raws [] h rises = tt
keys_ascend offsets at raws (a ∷ []) h rises = tt
keys_ascend offsets at [] (a ∷ b ∷ cases) h rises = absurd h
keys_ascend offsets at (r ∷ []) (a ∷ b ∷ cases) h rises = absurd h.2
keys_ascend offsets at (r ∷ s ∷ raws) (a ∷ b ∷ cases) h rises = (key_above a.key b.key r.key s.key h.0 h.2.0 (rises 0 r s refl refl), keys_ascend offsets at (s ∷ raws) (b ∷ cases) h.2 (rises_later r (s ∷ raws) rises))

some_targets : (low high : ℤ) → (high <ℤ low → ⊥) → 1 ≤ targets low high
unfolding targets
some_targets low high h = grind (arith, ints)

-- ---- members

abbrev Least : ℕ → Option Form → Type 0
Least op (Some form.Reference) = getstatic ≤ op
Least op _ = Unit {0}

line : (op last : ℕ) (here behind : Option Form) → (op ≤ last → Least op here) → (last < op → Least op behind) → Least op (cond (leb op last) here behind)
line op last here behind within past = by_test (leb op last) refl
  where
    by_test : (b : Bool) → leb op last ≡ b → Least op (cond b here behind)
    by_test true e = within (leb-true op last e)
    by_test false e = past (leb-false op last e)

least_of : (op : ℕ) → Least op (form_of op)
unfolding form_of
least_of op =
    line op _ _ _ (λ h. tt) (λ h. line op _ _ _ (λ h. tt) (λ h. line op _ _ _ (λ h. tt) (λ h. line op _ _ _ (λ h. tt) (λ h. line op _ _ _ (λ h. tt) (λ h.
    line op _ _ _ (λ h. tt) (λ h. line op _ _ _ (λ h. tt) (λ h. line op _ _ _ (λ h. tt) (λ h. line op _ _ _ (λ h. tt) (λ h. line op _ _ _ (λ h. tt) (λ h.
    line op _ _ _ (λ h. tt) (λ h. line op _ _ _ (λ h. tt) (λ h. line op _ _ _ (λ h. tt) (λ h. line op _ _ _ (λ h. tt) (λ h. line op _ _ _ (λ h. tt) (λ h.
    line op _ _ _ (λ h. tt) (λ above. line op _ _ _ (λ h. omega arith) (λ h. line op _ _ _ (λ h. tt) (λ h. line op _ _ _ (λ h. tt) (λ h. line op _ _ _ (λ h. tt) (λ h.
    line op _ _ _ (λ h. tt) (λ h. line op _ _ _ (λ h. tt) (λ h. line op _ _ _ (λ h. tt) (λ h. line op _ _ _ (λ h. tt) (λ h. line op _ _ _ (λ h. tt) (λ h.
    line op _ _ _ (λ h. tt) (λ h. line op _ _ _ (λ h. tt) (λ h. line op _ _ _ (λ h. tt) (λ h. line op _ _ _ (λ h. tt) (λ h. tt)))))))))))))))))))))))))))))

least : (op : ℕ) → form_of op ≡ Some form.Reference → getstatic ≤ op
least op e = subst (Least op) e (least_of op)

-- the alternatives of the members that an opcode takes
abbrev Alternatives : List PoolEntry → ℕ → ℕ → MemberReference → Type 0
Alternatives pool op n m =
    ((op ≤ putfield) × (constant_of pool n ≡ Some (constants.Field m)))
    ⊎ ((putfield < op) × (constant_of pool n ≡ Some (constants.Method m false)))
    ⊎ ((invokevirtual < op) × (op ≤ invokestatic) × (constant_of pool n ≡ Some (constants.Method m true)))

not_virtual : (pool : List PoolEntry) (op n : ℕ) (m r : MemberReference) → op ≤ invokevirtual → constant_of pool n ≡ Some (constants.Method m true) → Alternatives pool op n r → ⊥
not_virtual pool op n m r low named (inl t) = let e = t.1 in cc
not_virtual pool op n m r low named (inr (inl t)) = let e = t.1 in cc
not_virtual pool op n m r low named (inr (inr t)) = omega (arith, t.0)

method_taken : (pool : List PoolEntry) (op n : ℕ) (m : MemberReference) (interface : Bool) → form_of op ≡ Some form.Reference → ((Takes pool op n → ⊥) → ⊥) → putfield < op → constant_of pool n ≡ Some (constants.Method m interface)
    → TakesMember op m.descriptor interface
method_taken pool op n m false has h above named = elim (cases_lt invokevirtual op) [ inl high ↦ inr (inl (high, only op form.Reference has)) | inr low ↦ inl (omega arith, low, refl) ]
method_taken pool op n m true has h above named = elim (cases_lt invokevirtual op) [
  | inl high ↦ inr (inl (high, only op form.Reference has))
  | inr low ↦ absurd (h (λ t. not_virtual pool op n m t.0 low named t.1))
]

-- a number's constant is a field, or else a method
member_taken : (pool : List PoolEntry) (op n : ℕ) (m : MemberReference) (interface : Bool) → form_of op ≡ Some form.Reference → ((Takes pool op n → ⊥) → ⊥) → constant_of pool n ≡ Some (member_constant op m interface) → (op ≤ putfield → interface ≡ false)
    → TakesMember op m.descriptor interface
member_taken pool op n m interface has h named flagged = elim (cases_lt putfield op) [
  | inl above ↦ method_taken pool op n m interface has h above (named ∙ ap (λ (c : Const). Some c) (method_constant op m interface above))
  | inr below ↦ inl (least op has, omega arith, flagged below)
]

interface_true : (pool : List PoolEntry) (n : ℕ) (m : MemberReference) (interface : Bool) → (((descriptor : List ℕ) → TakesInterface pool n descriptor → ⊥) → ⊥) → constant_of pool n ≡ Some (constants.Method m interface) → interface ≡ true
interface_true pool n m true h named = refl
interface_true pool n m false h named = absurd (h (λ d t. let e = t.1 in cc))

-- ---- each instruction

jump_shaped : (op : ℕ) (distance : ℤ) → IsInstruction (raw.Branch op distance) → IsInstruction (raw.Branch op (pos 0))
jump_shaped op distance (inl h) = inl (h.0, search rules)
jump_shaped op distance (inr h) = inr h

shaped : (pool : List PoolEntry) (offsets : List ℕ) (at : ℕ) (r : Raw) (i : Insn) → IsTyped r → IsInstruction r → ((place : ℕ) → InsnBreaks pool offsets at r place → ⊥) → Means pool offsets at r i → IsShaped (length offsets) i
shaped pool offsets at (raw.Plain op) i typed has sound means = subst (IsShaped (length offsets)) (sym (plain_is pool offsets at op i means)) has
shaped pool offsets at (raw.Push op value) i typed has sound means = subst (IsShaped (length offsets)) (sym (push_is pool offsets at op value i means)) has
shaped pool offsets at (raw.Load op n) i typed has sound means = let l = load_is pool offsets at op n i means in subst (IsShaped (length offsets)) (sym l.1) (load_shaped pool op n l.0 (λ none. sound 1 (not_loaded none)) l.2)
shaped pool offsets at (raw.Local op slot wide) i typed has sound means = subst (IsShaped (length offsets)) (sym (local_is pool offsets at op slot wide i means)) has
shaped pool offsets at (raw.Inc slot by wide) i typed has sound means = subst (IsShaped (length offsets)) (sym (inc_is pool offsets at slot by wide i means)) has
shaped pool offsets at (raw.Branch op distance) i typed has sound means = let b = branch_is pool offsets at op distance i means in subst (IsShaped (length offsets)) (sym b.1) (jump_shaped op distance has, b.2.0)
shaped pool offsets at (raw.Table low high other distances) i typed has sound means =
    let t = table_is pool offsets at low high other distances i means in
    let rises : high <ℤ low → ⊥ = λ below. sound (1 + padding at + 4) (table_low below) in
    let count : length t.1 ≡ targets low high = sym (lead_lengths offsets at distances t.1 t.4) ∙ has in
    let some : 1 ≤ length t.1 = omega (arith, some_targets low high rises) in
    subst (IsShaped (length offsets)) (sym t.2) (t.3.0, leads_below offsets at distances t.1 t.4, some, typed.0, subst (FitsSigned w32) (high_is low high (length t.1) rises count) typed.1)
shaped pool offsets at (raw.Lookup other raws) i typed has sound means =
    let l = lookup_is pool offsets at other raws i means in
    let below = cases_below offsets at raws l.1 l.4 in
    let few : length l.1 < 2 ^ 31 = subst (λ (z : ℕ). z < 2 ^ 31) below.1 has in
    subst (IsShaped (length offsets)) (sym l.2) (l.3.0, below.0, few, keys_ascend offsets at raws l.1 l.4 (λ k before case e f le. sound (1 + padding at + 8 + 8 * (k + 1)) (lookup_key k before case e f le)))
shaped pool offsets at (raw.Reference op n) i typed has sound means =
    let m = reference_is pool offsets at op n i means in
    subst (IsShaped (length offsets)) (sym m.2) (member_taken pool op n m.0 m.1 has (λ none. sound 1 (not_taken none)) m.3 m.4)
shaped pool offsets at (raw.Interface n count last) i typed has sound means =
    let m = interface_is pool offsets at n count last i means in
    let named : constant_of pool n ≡ Some (constants.Method m.0 m.1) = m.3 ∙ ap (λ (c : Const). Some c) (method_constant invokeinterface m.0 m.1 (omega arith)) in
    let is : m.1 ≡ true = interface_true pool n m.0 m.1 (λ none. sound 1 (not_interface none)) named in
    let few : m.4.0 < 255 = omega (arith, m.4.2, typed.1) in
    subst (IsShaped (length offsets)) (sym m.2) (inr (inr (refl, is, (m.4.0, m.4.1, few))))
shaped pool offsets at (raw.Dynamic n) i typed has sound means = let s = site_is pool offsets at n i means in subst (IsShaped (length offsets)) (sym s.3) tt
shaped pool offsets at (raw.Class op n) i typed has sound means = let c = class_is pool offsets at op n i means in subst (IsShaped (length offsets)) (sym c.1) has
shaped pool offsets at (raw.NewArray kind) i typed has sound means =
    subst (IsShaped (length offsets)) (sym (array_is pool offsets at kind i means)) (stable (both_or (le_or 4 kind) (le_or kind 11)) (λ none. sound 1 (not_array none)))
shaped pool offsets at (raw.MultiArray n dimensions) i typed has sound means =
    let c = multi_is pool offsets at n dimensions i means in
    subst (IsShaped (length offsets)) (sym c.1) (stable (both_or (le_or 1 dimensions) (le_or dimensions (dimensions_of c.0))) (λ none. sound 3 (not_dimensions (class_behind pool n c.0 c.2) none)))

abbrev AreAllowed : Insn → Type 0
AreAllowed i = AllByRecursion IsAllowed (constants_in i)

allowed : (pool : List PoolEntry) (offsets : List ℕ) (at : ℕ) (r : Raw) (i : Insn) → IsPool pool → Means pool offsets at r i → AreAllowed i
allowed pool offsets at (raw.Plain op) i sound means = subst AreAllowed (sym (plain_is pool offsets at op i means)) tt
allowed pool offsets at (raw.Push op value) i sound means = subst AreAllowed (sym (push_is pool offsets at op value i means)) tt
allowed pool offsets at (raw.Load op n) i sound means = let l = load_is pool offsets at op n i means in subst AreAllowed (sym l.1) (constant_allowed pool sound n l.0 l.2, tt)
allowed pool offsets at (raw.Local op slot wide) i sound means = subst AreAllowed (sym (local_is pool offsets at op slot wide i means)) tt
allowed pool offsets at (raw.Inc slot by wide) i sound means = subst AreAllowed (sym (inc_is pool offsets at slot by wide i means)) tt
allowed pool offsets at (raw.Branch op distance) i sound means = let b = branch_is pool offsets at op distance i means in subst AreAllowed (sym b.1) tt
allowed pool offsets at (raw.Table low high other distances) i sound means = let t = table_is pool offsets at low high other distances i means in subst AreAllowed (sym t.2) tt
allowed pool offsets at (raw.Lookup other raws) i sound means = let l = lookup_is pool offsets at other raws i means in subst AreAllowed (sym l.2) tt
allowed pool offsets at (raw.Reference op n) i sound means = let m = reference_is pool offsets at op n i means in subst AreAllowed (sym m.2) (constant_allowed pool sound n (member_constant op m.0 m.1) m.3, tt)
allowed pool offsets at (raw.Interface n count last) i sound means =
    let m = interface_is pool offsets at n count last i means in
    subst AreAllowed (sym m.2) (constant_allowed pool sound n (member_constant invokeinterface m.0 m.1) m.3, tt)
allowed pool offsets at (raw.Dynamic n) i sound means = let s = site_is pool offsets at n i means in subst AreAllowed (sym s.3) (constant_allowed pool sound n (constants.InvokeDynamic s.0 s.1 s.2) s.4, tt)
allowed pool offsets at (raw.Class op n) i sound means = let c = class_is pool offsets at op n i means in subst AreAllowed (sym c.1) (constant_allowed pool sound n (constants.Class c.0) c.2, tt)
allowed pool offsets at (raw.NewArray kind) i sound means = subst AreAllowed (sym (array_is pool offsets at kind i means)) tt
allowed pool offsets at (raw.MultiArray n dimensions) i sound means = let c = multi_is pool offsets at n dimensions i means in subst AreAllowed (sym c.1) (constant_allowed pool sound n (constants.Class c.0) c.2, tt)

-- ---- all of them

-- no item of an instruction breaks what it must meet
abbrev AreSound : List PoolEntry → List ℕ → List Raw → List ℕ → Type 0
AreSound pool offsets raws ats = (k : ℕ) (r : Raw) (at place : ℕ) → slice_get raws k ≡ Some r → slice_get ats k ≡ Some at → InsnBreaks pool offsets at r place → ⊥

formed_from : (pool : List PoolEntry) (offsets code : List ℕ) (from : ℕ) (raws : List Raw) (ats : List ℕ) (insns : List Insn) (end : ℕ) → IsPool pool → Follow code from raws ats end → AllMean pool offsets raws ats insns → AreSound pool offsets raws ats
    → AllByRecursion (IsFormed (length offsets)) insns × (length ats ≡ length insns)
formed_from pool offsets code from [] [] [] end whole follow mean sound = (tt, refl)
formed_from pool offsets code from [] [] (i ∷ insns) end whole follow mean sound = absurd mean
formed_from pool offsets code from [] (at ∷ ats) insns end whole follow mean sound = absurd mean
formed_from pool offsets code from (r ∷ raws) [] insns end whole follow mean sound = absurd mean
formed_from pool offsets code from (r ∷ raws) (at ∷ ats) [] end whole follow mean sound = absurd mean
formed_from pool offsets code from (r ∷ raws) (at ∷ ats) (i ∷ insns) end whole follow mean sound =
    let spelled = follow.1.1.spelled in
    let here : IsFormed (length offsets) i = (allowed pool offsets at r i whole mean.0, shaped pool offsets at r i spelled.typed spelled.instruction (λ place breaks. sound 0 r at place refl refl breaks) mean.0) in
    let rest = formed_from pool offsets code (from + follow.1.0) raws ats insns end whole follow.1.2 mean.1 (λ k q z place e f breaks. sound (suc k) q z place e f breaks) in
    ((here, rest.0), ap suc rest.1)

pub formed : (pool : List PoolEntry) (code : List ℕ) (raws : List Raw) (offsets : List ℕ) (insns : List Insn) (end : ℕ) → IsPool pool → Follow code 0 raws offsets end → AllMean pool offsets raws offsets insns → AreSound pool offsets raws offsets → AreFormed insns
formed pool code raws offsets insns end whole follow mean sound =
    let all = formed_from pool offsets code 0 raws offsets insns end whole follow mean sound in
    subst (λ (count : ℕ). AllByRecursion (IsFormed count) insns) all.1 all.0
