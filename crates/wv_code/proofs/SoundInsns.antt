-- No item of a written instruction breaks what it must meet.
use Rattle.std.proofs.Common.{◌≡◌, ℕ, zero, suc, ◌+◌, ◌<◌, ◌≤◌, ℤ, Bool, true, false, List, [], ◌∷◌, Option, Some, refl, sym, ap, subst, ◌∙◌, arith, add-one, inl, inr}
use Rattle.std.specs.Prelude.{slice_get, ◌<ℤ◌, ◌≤ℤ◌, ◌==◌, ◌&&◌, nat_le, if◌then◌else◌}
use Rattle.std.specs.List.{AllByRecursion}
use Rattle.std.proofs.lemmas.Int.{ints}
use Rattle.std.proofs.lemmas.Bool.{eqb-true}
use Rattle.std.proofs.lemmas.Bool.Decides.{nat_tests}
use Rattle.wv_base.specs.declared.class_file.PoolEntry.{PoolEntry}
use Rattle.wv_base.specs.declared.constant.Const.{Const}
use Rattle.wv_base.specs.declared.constant.Const.TheVariants as constants
use Rattle.wv_base.specs.declared.constant.MemberReference.{MemberReference}
use Rattle.wv_base.specs.declared.insn.Insn.{Insn}
use Rattle.wv_base.specs.declared.insn.Insn.TheVariants as insn
use Rattle.wv_base.specs.declared.insn.Case.{Case}
use Rattle.wv_base.specs.declared.form.Form.TheVariants as form
use Rattle.wv_base.specs.Opcodes.{ldc, ldc_w, putfield, invokevirtual, invokestatic, invokeinterface}
use Rattle.wv_base.specs.Opcodes.{new as new_instance}
use Rattle.wv_base.specs.Descriptor.{HasWords}
use Rattle.wv_insn.specs.declared.raw.Raw.{Raw}
use Rattle.wv_insn.specs.declared.raw.Raw.TheVariants as raws
use Rattle.wv_insn.specs.declared.raw.RawCase.{RawCase}
use Rattle.wv_insn.specs.Spelling.{IsInstruction}
use Rattle.wv_pool.specs.Constants.{class_name, constant_of}
use Rattle.wv_pool.proofs.Behind.{some_is, class_is}
use Rattle.wv_code.specs.Constants.{member_constant}
use Rattle.wv_code.specs.Formed.{loaded_words, LoadsWords, TakesMember, KeysAscend, dimensions_of, IsShaped, IsFormed}
use Rattle.wv_code.specs.Meaning.{Leads, AllLead, AllCasesLead, Means, widened}
use Rattle.wv_code.specs.Code.{Follow, AllMean, AreWidened}
use Rattle.wv_code.specs.Breaks.{Lands, Loads, Takes, TakesInterface, TakesSite, NamesClass, InsnBreaks, load, branch, table_other, table_low, table_target, lookup_other, lookup_key, lookup_target, reference, interface, count, zero as zero_byte, site, class, array, multi, dimensions}
use Rattle.wv_code.proofs.Forms.{only}

-- ---- lists side by side

pub lead_get : (offsets : List ℕ) (at : ℕ) (ds : List ℤ) (tos : List ℕ) (k : ℕ) (d : ℤ) → AllLead offsets at ds tos → slice_get ds k ≡ Some d → Lands offsets at d
lead_get offsets at [] tos k d h e = absurd cc
lead_get offsets at (x ∷ ds) [] k d h e = absurd h
lead_get offsets at (x ∷ ds) (to ∷ tos) zero d h e = (to, subst (λ (z : ℤ). Leads offsets at z to) (some_is x d e) h.0)
lead_get offsets at (x ∷ ds) (to ∷ tos) (suc k) d h e = lead_get offsets at ds tos k d h.1 e

pub record CaseAt (offsets : List ℕ) (at : ℕ) (cases : List Case) (k : ℕ) (raw : RawCase) : Type 0 where
  pub of : Case
  pub there : slice_get cases k ≡ Some of
  pub key : raw.key ≡ of.key
  pub leads : Leads offsets at raw.offset of.to

pub case_get : (offsets : List ℕ) (at : ℕ) (rs : List RawCase) (cases : List Case) (k : ℕ) (raw : RawCase) → AllCasesLead offsets at rs cases → slice_get rs k ≡ Some raw → CaseAt offsets at cases k raw
case_get offsets at [] cases k raw h e = absurd cc
case_get offsets at (x ∷ rs) [] k raw h e = absurd h
case_get offsets at (x ∷ rs) (c ∷ cases) zero raw h e =
    subst (λ (z : RawCase). CaseAt offsets at (c ∷ cases) zero z) (some_is x raw e) (record { of = c; there = refl; key = h.0; leads = h.1 })
case_get offsets at (x ∷ rs) (c ∷ cases) (suc k) raw h e =
    let found = case_get offsets at rs cases k raw h.2 e in record { of = found.of; there = found.there; key = found.key; leads = found.leads }

ascends_get : (cases : List Case) (k : ℕ) (a b : Case) → KeysAscend cases → slice_get cases k ≡ Some a → slice_get cases (suc k) ≡ Some b → a.key <ℤ b.key
ascends_get [] k a b h e f = absurd cc
ascends_get (x ∷ []) k a b h e f = absurd cc
ascends_get (x ∷ y ∷ others) zero a b h e f =
    subst (λ (z : Case). z.key <ℤ b.key) (some_is x a e) (subst (λ (z : Case). x.key <ℤ z.key) (some_is y b f) h.0)
ascends_get (x ∷ y ∷ others) (suc k) a b h e f = ascends_get (y ∷ others) k a b h.1 e f

not_both : (a b : ℤ) → a <ℤ b → b ≤ℤ a → ⊥
not_both a b lt le = omega (arith, ints)

-- ---- instructions as they are written

load_widened : (op words : ℕ) (long : Bool) → LoadsWords op words → LoadsWords (if op == ldc && long then ldc_w else op) words
load_widened op words long h = by_test (op == ldc) long refl
  where
    one_word : op ≡ ldc → words ≡ 1
    one_word is = elim h [ inl one ↦ one.1 | inr two ↦ absurd (omega (arith, is, two.0)) ]

    by_test : (t l : Bool) → (op == ldc) ≡ t → LoadsWords (if t && l then ldc_w else op) words
    by_test true true e = inl (inr refl, one_word (eqb-true op ldc e))
    by_test true false e = h
    by_test false l e = h

pub widened_shaped : (total : ℕ) (long : Bool) (i : Insn) → IsShaped total i → IsShaped total (widened long i)
widened_shaped total long (insn.Load op value) h = load_widened op (loaded_words value) long h
widened_shaped total long _ h = h

-- ---- what each operand names

load_sound : (pool : List PoolEntry) (offsets : List ℕ) (total at op number : ℕ) (i : Insn) → Means pool offsets at (raws.Load op number) i → IsShaped total i → Loads pool op number
load_sound pool offsets total at op number (insn.Load o value) m s = (value, m.1.0, subst (λ (z : ℕ). LoadsWords z (loaded_words value)) (sym m.0) s)
load_sound pool offsets total at op number _ m s = absurd m

branch_sound : (pool : List PoolEntry) (offsets : List ℕ) (at op : ℕ) (distance : ℤ) (i : Insn) → Means pool offsets at (raws.Branch op distance) i → Lands offsets at distance
branch_sound pool offsets at op distance (insn.Branch o to) m = (to, m.1)
branch_sound pool offsets at op distance _ m = absurd m

table_other_sound : (pool : List PoolEntry) (offsets : List ℕ) (at : ℕ) (low high other : ℤ) (ds : List ℤ) (i : Insn) → Means pool offsets at (raws.Table low high other ds) i → Lands offsets at other
table_other_sound pool offsets at low high other ds (insn.Table l to targets) m = (to, m.2)
table_other_sound pool offsets at low high other ds _ m = absurd m

table_low_sound : (pool : List PoolEntry) (offsets : List ℕ) (total at : ℕ) (low high other : ℤ) (ds : List ℤ) (i : Insn) → Means pool offsets at (raws.Table low high other ds) i → IsShaped total i → high <ℤ low → ⊥
table_low_sound pool offsets total at low high other ds (insn.Table l to targets) m s lt = omega (arith, ints, m.0, m.1, s.2)
table_low_sound pool offsets total at low high other ds _ m s lt = absurd m

table_target_sound : (pool : List PoolEntry) (offsets : List ℕ) (at : ℕ) (low high other : ℤ) (ds : List ℤ) (i : Insn) (k : ℕ) (d : ℤ) → Means pool offsets at (raws.Table low high other ds) i → slice_get ds k ≡ Some d → Lands offsets at d
table_target_sound pool offsets at low high other ds (insn.Table l to targets) k d m e = lead_get offsets at ds targets k d m.3 e
table_target_sound pool offsets at low high other ds _ k d m e = absurd m

lookup_other_sound : (pool : List PoolEntry) (offsets : List ℕ) (at : ℕ) (other : ℤ) (rs : List RawCase) (i : Insn) → Means pool offsets at (raws.Lookup other rs) i → Lands offsets at other
lookup_other_sound pool offsets at other rs (insn.Lookup to cases) m = (to, m.0)
lookup_other_sound pool offsets at other rs _ m = absurd m

lookup_key_sound : (pool : List PoolEntry) (offsets : List ℕ) (total at : ℕ) (other : ℤ) (rs : List RawCase) (i : Insn) (k : ℕ) (a b : RawCase) → Means pool offsets at (raws.Lookup other rs) i → IsShaped total i → slice_get rs k ≡ Some a
    → slice_get rs (k + 1) ≡ Some b → b.key ≤ℤ a.key → ⊥
lookup_key_sound pool offsets total at other rs (insn.Lookup to cases) k a b m s e f le =
    let x = case_get offsets at rs cases k a m.1 e in
    let y = case_get offsets at rs cases (suc k) b m.1 (rw add-one at f) in
    let lt : x.of.key <ℤ y.of.key = ascends_get cases k x.of y.of s.3 x.there y.there in
    not_both a.key b.key (rw (x.key, y.key) lt) le
lookup_key_sound pool offsets total at other rs _ k a b m s e f le = absurd m

lookup_target_sound : (pool : List PoolEntry) (offsets : List ℕ) (at : ℕ) (other : ℤ) (rs : List RawCase) (i : Insn) (k : ℕ) (a : RawCase) → Means pool offsets at (raws.Lookup other rs) i → slice_get rs k ≡ Some a → Lands offsets at a.offset
lookup_target_sound pool offsets at other rs (insn.Lookup to cases) k a m e = let x = case_get offsets at rs cases k a m.1 e in (x.of.to, x.leads)
lookup_target_sound pool offsets at other rs _ k a m e = absurd m

-- an opcode of a class takes what is one of an interface only above invokevirtual
flag_above : (op : ℕ) (descriptor : List ℕ) → TakesMember op descriptor true → invokevirtual < op
flag_above op descriptor (inl h) = absurd cc (h.2)
flag_above op descriptor (inr (inl h)) = h.0
flag_above op descriptor (inr (inr h)) = omega (arith, h.0)

takes : (pool : List PoolEntry) (op number : ℕ) (m : MemberReference) (flag : Bool) → op ≤ invokestatic → TakesMember op m.descriptor flag → constant_of pool number ≡ Some (member_constant op m flag) → Takes pool op number
takes pool op number m flag low shaped e = by_test (nat_le op putfield) flag refl shaped e
  where
    by_test : (t f : Bool) → nat_le op putfield ≡ t → TakesMember op m.descriptor f → constant_of pool number ≡ Some (if t then constants.Field m else constants.Method m f) → Takes pool op number
    by_test true f is shaped e = let le : op ≤ putfield = grind (arith, nat_tests) in (m, inl (le, e))
    by_test false false is shaped e = let lt : putfield < op = grind (arith, nat_tests) in (m, inr (inl (lt, e)))
    by_test false true is shaped e = (m, inr (inr (flag_above op m.descriptor shaped, low, e)))

reference_sound : (pool : List PoolEntry) (offsets : List ℕ) (total at op number : ℕ) (i : Insn) → IsInstruction (raws.Reference op number) → Means pool offsets at (raws.Reference op number) i → IsShaped total i → Takes pool op number
reference_sound pool offsets total at op number (insn.Reference o owner name descriptor flag) is m s =
    let low : op ≤ invokestatic = only op form.Reference is in
    subst (λ (z : ℕ). Takes pool z number) (sym m.0)
    (takes pool o number (record { owner = owner; name = name; descriptor = descriptor }) flag (omega (arith, m.0)) s m.1.0)
reference_sound pool offsets total at op number _ is m s = absurd m

-- invokeinterface names a method of an interface
interface_flag : (op : ℕ) (descriptor : List ℕ) (flag : Bool) → op ≡ invokeinterface → TakesMember op descriptor flag → flag ≡ true
interface_flag op descriptor flag is (inl h) = absurd (omega (arith, h.1))
interface_flag op descriptor flag is (inr (inl h)) = absurd (omega (arith, h.1))
interface_flag op descriptor flag is (inr (inr h)) = h.1

interface_named : (pool : List PoolEntry) (op number : ℕ) (m : MemberReference) (flag : Bool) → op ≡ invokeinterface → TakesMember op m.descriptor flag → constant_of pool number ≡ Some (member_constant op m flag) → constant_of pool number ≡ Some (constants.Method m true)
interface_named pool op number m flag is shaped e =
    subst (λ (f : Bool). constant_of pool number ≡ Some (constants.Method m f)) (interface_flag op m.descriptor flag is shaped)
    (subst (λ (o : ℕ). constant_of pool number ≡ Some (member_constant o m flag)) is e)

interface_sound : (pool : List PoolEntry) (offsets : List ℕ) (total at number arguments last : ℕ) (i : Insn) → Means pool offsets at (raws.Interface number arguments last) i → IsShaped total i → (descriptor : List ℕ) × TakesInterface pool number descriptor
interface_sound pool offsets total at number arguments last (insn.Reference o owner name descriptor flag) m s =
    let member : MemberReference = record { owner = owner; name = name; descriptor = descriptor } in
    (descriptor, (member, interface_named pool o number member flag m.0 s m.1.0, refl))
interface_sound pool offsets total at number arguments last _ m s = absurd m

method_is : (a b : MemberReference) → Path (Option Const) (Some (constants.Method a true)) (Some (constants.Method b true)) → a ≡ b
method_is a b e = cc

count_sound : (pool : List PoolEntry) (offsets : List ℕ) (total at number arguments last : ℕ) (i : Insn) (taken : List ℕ) → Means pool offsets at (raws.Interface number arguments last) i → IsShaped total i → TakesInterface pool number taken
    → (words : ℕ) × HasWords taken words × (arguments ≡ words + 1)
count_sound pool offsets total at number arguments last (insn.Reference o owner name descriptor flag) taken m s t =
    let member : MemberReference = record { owner = owner; name = name; descriptor = descriptor } in
    let same : t.0 ≡ member = method_is t.0 member (sym t.1 ∙ interface_named pool o number member flag m.0 s m.1.0) in
    let texts : taken ≡ descriptor = t.2 ∙ ap (λ (z : MemberReference). z.descriptor) same in
    subst (λ (d : List ℕ). (words : ℕ) × HasWords d words × (arguments ≡ words + 1)) (sym texts) m.2
count_sound pool offsets total at number arguments last _ taken m s t = absurd m

zero_sound : (pool : List PoolEntry) (offsets : List ℕ) (at number arguments last : ℕ) (i : Insn) → Means pool offsets at (raws.Interface number arguments last) i → last ≡ 0
zero_sound pool offsets at number arguments last (insn.Reference o owner name descriptor flag) m = m.3
zero_sound pool offsets at number arguments last _ m = absurd m

site_sound : (pool : List PoolEntry) (offsets : List ℕ) (at number : ℕ) (i : Insn) → Means pool offsets at (raws.Dynamic number) i → TakesSite pool number
site_sound pool offsets at number (insn.Site bootstrap name descriptor) m = (bootstrap, name, descriptor, m.0)
site_sound pool offsets at number _ m = absurd m

class_sound : (pool : List PoolEntry) (offsets : List ℕ) (at op number : ℕ) (i : Insn) → Means pool offsets at (raws.Class op number) i → NamesClass pool number
class_sound pool offsets at op number (insn.Class o name) m = (name, class_is pool number name m.1.0)
class_sound pool offsets at op number _ m = absurd m

array_sound : (pool : List PoolEntry) (offsets : List ℕ) (total at kind : ℕ) (i : Insn) → Means pool offsets at (raws.NewArray kind) i → IsShaped total i → (4 ≤ kind) × (kind ≤ 11)
array_sound pool offsets total at kind (insn.NewArray k) m s = (omega (arith, m, s.0), omega (arith, m, s.1))
array_sound pool offsets total at kind _ m s = absurd m

multi_sound : (pool : List PoolEntry) (offsets : List ℕ) (at number dims : ℕ) (i : Insn) → Means pool offsets at (raws.MultiArray number dims) i → NamesClass pool number
multi_sound pool offsets at number dims (insn.MultiArray name d) m = (name, class_is pool number name m.0.0)
multi_sound pool offsets at number dims _ m = absurd m

dimensions_sound : (pool : List PoolEntry) (offsets : List ℕ) (total at number dims : ℕ) (i : Insn) (name : List ℕ) → Means pool offsets at (raws.MultiArray number dims) i → IsShaped total i → class_name pool number ≡ Some name → (1 ≤ dims) × (dims ≤ dimensions_of name)
dimensions_sound pool offsets total at number dims (insn.MultiArray text d) name m s e =
    let same : text ≡ name = some_is text name (sym (class_is pool number text m.0.0) ∙ e) in
    subst (λ (z : List ℕ). (1 ≤ dims) × (dims ≤ dimensions_of z)) same (omega (arith, m.1, s.0), omega (arith, m.1, s.1))
dimensions_sound pool offsets total at number dims _ name m s e = absurd m

-- nothing of an instruction breaks what it must meet
pub insn_sound : (pool : List PoolEntry) (offsets : List ℕ) (total at : ℕ) (r : Raw) (i : Insn) (place : ℕ) → IsInstruction r → Means pool offsets at r i → IsShaped total i → InsnBreaks pool offsets at r place → ⊥
insn_sound pool offsets total at (raws.Plain op) i place is m s b = elim b [ ]
insn_sound pool offsets total at (raws.Push op value) i place is m s b = elim b [ ]
insn_sound pool offsets total at (raws.Local op slot wide) i place is m s b = elim b [ ]
insn_sound pool offsets total at (raws.Inc slot by wide) i place is m s b = elim b [ ]
insn_sound pool offsets total at (raws.Load op number) i place is m s (load never) = never (load_sound pool offsets total at op number i m s)
insn_sound pool offsets total at (raws.Branch op distance) i place is m s (branch never) = never (branch_sound pool offsets at op distance i m)
insn_sound pool offsets total at (raws.Table low high other ds) i place is m s (table_other never) = never (table_other_sound pool offsets at low high other ds i m)
insn_sound pool offsets total at (raws.Table low high other ds) i place is m s (table_low lt) = table_low_sound pool offsets total at low high other ds i m s lt
insn_sound pool offsets total at (raws.Table low high other ds) i place is m s (table_target k d e never) = never (table_target_sound pool offsets at low high other ds i k d m e)
insn_sound pool offsets total at (raws.Lookup other rs) i place is m s (lookup_other never) = never (lookup_other_sound pool offsets at other rs i m)
insn_sound pool offsets total at (raws.Lookup other rs) i place is m s (lookup_key k a b e f le) = lookup_key_sound pool offsets total at other rs i k a b m s e f le
insn_sound pool offsets total at (raws.Lookup other rs) i place is m s (lookup_target k a e never) = never (lookup_target_sound pool offsets at other rs i k a m e)
insn_sound pool offsets total at (raws.Reference op number) i place is m s (reference never) = never (reference_sound pool offsets total at op number i is m s)
insn_sound pool offsets total at (raws.Interface number arguments last) i place is m s (interface never) = let found = interface_sound pool offsets total at number arguments last i m s in never found.0 found.1
insn_sound pool offsets total at (raws.Interface number arguments last) i place is m s (count {descriptor = d} t never) = let found = count_sound pool offsets total at number arguments last i d m s t in never found.0 found.1 found.2
insn_sound pool offsets total at (raws.Interface number arguments last) i place is m s (zero_byte never) = never (zero_sound pool offsets at number arguments last i m)
insn_sound pool offsets total at (raws.Dynamic number) i place is m s (site never) = never (site_sound pool offsets at number i m)
insn_sound pool offsets total at (raws.Class op number) i place is m s (class never) = never (class_sound pool offsets at op number i m)
insn_sound pool offsets total at (raws.NewArray kind) i place is m s (array never) = never (array_sound pool offsets total at kind i m s)
insn_sound pool offsets total at (raws.MultiArray number dims) i place is m s (multi never) = never (multi_sound pool offsets at number dims i m)
insn_sound pool offsets total at (raws.MultiArray number dims) i place is m s (dimensions {name = name} e never) = never (dimensions_sound pool offsets total at number dims i name m s e)

-- ---- instructions by their index

follow_get : (code : List ℕ) (at : ℕ) (rs : List Raw) (offsets : List ℕ) (end k : ℕ) (r : Raw) → Follow code at rs offsets end → slice_get rs k ≡ Some r → IsInstruction r
follow_get code at [] offsets end k r h e = absurd cc
follow_get code at (x ∷ rs) [] end k r h e = absurd h
follow_get code at (x ∷ rs) (o ∷ offsets) end zero r h e = subst IsInstruction (some_is x r e) h.1.1.spelled.instruction
follow_get code at (x ∷ rs) (o ∷ offsets) end (suc k) r h e = follow_get code (at + h.1.0) rs offsets end k r h.1.2 e

mean_get : (pool : List PoolEntry) (offsets : List ℕ) (rs : List Raw) (ats : List ℕ) (insns : List Insn) (k : ℕ) (r : Raw) (at : ℕ) → AllMean pool offsets rs ats insns → slice_get rs k ≡ Some r → slice_get ats k ≡ Some at
    → (i : Insn) × (slice_get insns k ≡ Some i) × Means pool offsets at r i
mean_get pool offsets [] ats insns k r at h e f = absurd cc
mean_get pool offsets (x ∷ rs) [] insns k r at h e f = absurd cc
mean_get pool offsets (x ∷ rs) (o ∷ ats) [] k r at h e f = absurd h
mean_get pool offsets (x ∷ rs) (o ∷ ats) (i ∷ insns) zero r at h e f =
    (i, refl, subst (λ (z : Raw). Means pool offsets at z i) (some_is x r e) (subst (λ (z : ℕ). Means pool offsets z x i) (some_is o at f) h.0))
mean_get pool offsets (x ∷ rs) (o ∷ ats) (i ∷ insns) (suc k) r at h e f = mean_get pool offsets rs ats insns k r at h.1 e f

mean_back : (pool : List PoolEntry) (offsets : List ℕ) (rs : List Raw) (ats : List ℕ) (insns : List Insn) (k : ℕ) (i : Insn) → AllMean pool offsets rs ats insns → slice_get insns k ≡ Some i → (r : Raw) × (at : ℕ) × (slice_get rs k ≡ Some r) × Means pool offsets at r i
mean_back pool offsets rs ats [] k i h e = absurd cc
mean_back pool offsets [] [] (j ∷ insns) k i h e = absurd h
mean_back pool offsets [] (o ∷ ats) (j ∷ insns) k i h e = absurd h
mean_back pool offsets (x ∷ rs) [] (j ∷ insns) k i h e = absurd h
mean_back pool offsets (x ∷ rs) (o ∷ ats) (j ∷ insns) zero i h e = (x, o, refl, subst (λ (z : Insn). Means pool offsets o x z) (some_is j i e) h.0)
mean_back pool offsets (x ∷ rs) (o ∷ ats) (j ∷ insns) (suc k) i h e = mean_back pool offsets rs ats insns k i h.1 e

widened_get : (pool : List PoolEntry) (insns others : List Insn) (k : ℕ) (i : Insn) → AreWidened pool insns others → slice_get insns k ≡ Some i → (long : Bool) × (slice_get others k ≡ Some (widened long i))
widened_get pool [] others k i h e = absurd cc
widened_get pool (x ∷ insns) [] k i h e = absurd h
widened_get pool (x ∷ insns) (y ∷ others) zero i h e = (h.0.0, ap (λ (z : Insn). Some z) (h.0.2 ∙ ap (widened h.0.0) (some_is x i e)))
widened_get pool (x ∷ insns) (y ∷ others) (suc k) i h e = widened_get pool insns others k i h.1 e

pub shaped_others : (pool : List PoolEntry) (total : ℕ) (insns others : List Insn) → AreWidened pool insns others → AllByRecursion (IsFormed total) insns → AllByRecursion (IsShaped total) others
shaped_others pool total [] [] h formed = tt
shaped_others pool total [] (y ∷ others) h formed = absurd h
shaped_others pool total (x ∷ insns) [] h formed = absurd h
shaped_others pool total (x ∷ insns) (y ∷ others) h formed =
    (subst (IsShaped total) (sym h.0.2) (widened_shaped total h.0.0 x formed.0.1), shaped_others pool total insns others h.1 formed.1)

shaped_get : (total : ℕ) (insns : List Insn) (k : ℕ) (i : Insn) → AllByRecursion (IsShaped total) insns → slice_get insns k ≡ Some i → IsShaped total i
shaped_get total [] k i h e = absurd cc
shaped_get total (x ∷ insns) zero i h e = subst (IsShaped total) (some_is x i e) h.0
shaped_get total (x ∷ insns) (suc k) i h e = shaped_get total insns k i h.1 e

-- nothing of the instructions does
pub insns_sound : (pool : List PoolEntry) (code : List ℕ) (rs : List Raw) (offsets : List ℕ) (others : List Insn) (total end k : ℕ) (r : Raw) (at place : ℕ) → Follow code 0 rs offsets end → AllMean pool offsets rs offsets others → AllByRecursion (IsShaped total) others
    → slice_get rs k ≡ Some r → slice_get offsets k ≡ Some at → InsnBreaks pool offsets at r place → ⊥
insns_sound pool code rs offsets others total end k r at place follow mean shaped e f b =
    let found = mean_get pool offsets rs offsets others k r at mean e f in
    insn_sound pool offsets total at r found.0 place (follow_get code 0 rs offsets end k r follow e) found.2 (shaped_get total others k found.0 shaped found.1) b

class_raw : (pool : List PoolEntry) (offsets : List ℕ) (at op : ℕ) (name : List ℕ) (r : Raw) → Means pool offsets at r (insn.Class op name) → (number : ℕ) × (r ≡ raws.Class op number)
class_raw pool offsets at op name (raws.Class o number) m = (number, ap (λ (z : ℕ). raws.Class z number) m.0)
class_raw pool offsets at op name _ m = absurd m

-- a `new` is written as one
pub new_raw : (pool : List PoolEntry) (insns others : List Insn) (rs : List Raw) (offsets : List ℕ) (index : ℕ) (name : List ℕ) → AreWidened pool insns others → AllMean pool offsets rs offsets others → slice_get insns index ≡ Some (insn.Class new_instance name)
    → (number : ℕ) × (slice_get rs index ≡ Some (raws.Class new_instance number))
new_raw pool insns others rs offsets index name widened_are mean e =
    let w = widened_get pool insns others index (insn.Class new_instance name) widened_are e in
    let b = mean_back pool offsets rs offsets others index (insn.Class new_instance name) mean w.1 in
    let c = class_raw pool offsets b.1 new_instance name b.0 b.3 in
    (c.0, b.2 ∙ ap (λ (z : Raw). Some z) c.1)
