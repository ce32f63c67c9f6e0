-- Targets and distances.
use Rattle.std.proofs.Common.{◌≡◌, ℕ, suc, ◌+◌, ◌<◌, ◌≤◌, ℤ, Bool, true, false, List, [], ◌∷◌, ◌++◌, length, get_or, take, Some, refl, sym, ap, subst, arith, inl, inr}
use Rattle.std.specs.Prelude.{nat_lt}
use Rattle.std.specs.List.{AllByRecursion}
use Rattle.std.proofs.lemmas.Int.{ints}
use Rattle.std.proofs.lemmas.List.{take_more}
use Rattle.std.proofs.lemmas.Bool.Decides.{nat_tests}
use Rattle.wv_base.specs.declared.class_file.PoolEntry.{PoolEntry}
use Rattle.wv_base.specs.declared.constant.Const.{Const}
use Rattle.wv_base.specs.declared.insn.Case.{Case}
use Rattle.wv_base.specs.declared.insn.Insn.{Insn}
use Rattle.wv_base.specs.declared.insn.Insn.TheVariants as insn
use Rattle.wv_insn.specs.declared.raw.Raw.{Raw}
use Rattle.wv_insn.specs.declared.raw.Raw.TheVariants as raw
use Rattle.wv_insn.specs.declared.raw.RawCase.{RawCase}
use Rattle.wv_insn.specs.Spelling.{targets}
use Rattle.wv_pool.specs.Constants.{constant_of}
use Rattle.wv_pool.specs.Numbers.{IsLeast}
use Rattle.wv_code.specs.Constants.{constants_in}
use Rattle.wv_code.specs.Formed.{TakesMember, last_key}
use Rattle.wv_code.specs.Laying.{IsLong}
use Rattle.wv_code.specs.Meaning.{NamesConstant, Leads, AllLead, AllCasesLead, IsFlagged, Means}
use Rattle.wv_code.specs.Writing.{load_opcode, IsMember, IsWritten}
use Rattle.wv_code.proofs.Lists.{AllByRecursion-map}

pub lead_push : (offsets : List ℕ) (at : ℕ) (distances : List ℤ) (targets : List ℕ) (d : ℤ) (t : ℕ) → AllLead offsets at distances targets → Leads offsets at d t → AllLead offsets at (distances ++ d ∷ []) (targets ++ t ∷ [])
lead_push offsets at [] [] d t h l = (l, tt)
lead_push offsets at [] (y ∷ targets) d t h l = absurd h
lead_push offsets at (x ∷ distances) [] d t h l = absurd h
lead_push offsets at (x ∷ distances) (y ∷ targets) d t h l = (h.0, lead_push offsets at distances targets d t h.1 l)

pub leads_on : (offsets : List ℕ) (at : ℕ) (distances : List ℤ) (targets : List ℕ) (k : ℕ) (d : ℤ) → k < length targets → AllLead offsets at distances (take k targets) → Leads offsets at d (get_or targets k 0)
    → AllLead offsets at (distances ++ d ∷ []) (take (k + 1) targets)
leads_on offsets at distances targets k d lt h l =
    subst (λ (front : List ℕ). AllLead offsets at (distances ++ d ∷ []) front) (sym (take_more targets k 0 lt)) (lead_push offsets at distances (take k targets) d (get_or targets k 0) h l)

pub case_push : (offsets : List ℕ) (at : ℕ) (raws : List RawCase) (cases : List Case) (r : RawCase) (c : Case) → AllCasesLead offsets at raws cases → r.key ≡ c.key → Leads offsets at r.offset c.to
    → AllCasesLead offsets at (raws ++ r ∷ []) (cases ++ c ∷ [])
case_push offsets at [] [] r c h key l = (key, l, tt)
case_push offsets at [] (y ∷ cases) r c h key l = absurd h
case_push offsets at (x ∷ raws) [] r c h key l = absurd h
case_push offsets at (x ∷ raws) (y ∷ cases) r c h key l = (h.0, h.1, case_push offsets at raws cases r c h.2 key l)

pub cases_on : (offsets : List ℕ) (at : ℕ) (raws : List RawCase) (cases : List Case) (k : ℕ) (r : RawCase) (d : Case) → k < length cases → AllCasesLead offsets at raws (take k cases) → r.key ≡ (get_or cases k d).key
    → Leads offsets at r.offset (get_or cases k d).to → AllCasesLead offsets at (raws ++ r ∷ []) (take (k + 1) cases)
cases_on offsets at raws cases k r d lt h key l =
    subst (λ (front : List Case). AllCasesLead offsets at (raws ++ r ∷ []) front) (sym (take_more cases k d lt)) (case_push offsets at raws (take k cases) r (get_or cases k d) h key l)

pub lead_lengths : (offsets : List ℕ) (at : ℕ) (distances : List ℤ) (tos : List ℕ) → AllLead offsets at distances tos → length distances ≡ length tos
lead_lengths offsets at [] [] h = refl
lead_lengths offsets at [] (y ∷ tos) h = absurd h
lead_lengths offsets at (x ∷ distances) [] h = absurd h
lead_lengths offsets at (x ∷ distances) (y ∷ tos) h = ap suc (lead_lengths offsets at distances tos h.1)

pub case_lengths : (offsets : List ℕ) (at : ℕ) (raws : List RawCase) (cases : List Case) → AllCasesLead offsets at raws cases → length raws ≡ length cases
case_lengths offsets at [] [] h = refl
case_lengths offsets at [] (y ∷ cases) h = absurd h
case_lengths offsets at (x ∷ raws) [] h = absurd h
case_lengths offsets at (x ∷ raws) (y ∷ cases) h = ap suc (case_lengths offsets at raws cases h.2)

-- the keys of so many targets
pub keys_are : (low : ℤ) (count : ℕ) → 1 ≤ count → targets low (last_key low count) ≡ count
unfolding targets
keys_are low count some = grind (arith, ints)

-- the member that an opcode takes has a flag only where it is a method
pub flag_taken : (op : ℕ) (descriptor : List ℕ) (interface : Bool) → TakesMember op descriptor interface → IsFlagged op interface
flag_taken op descriptor interface (inl h) le = h.2
flag_taken op descriptor interface (inr (inl h)) le = absurd (omega arith)
flag_taken op descriptor interface (inr (inr h)) le = absurd (omega arith)

-- a member's raw instruction means it
pub member_means : (pool : List PoolEntry) (offsets : List ℕ) (at op number : ℕ) (owner name descriptor : List ℕ) (interface : Bool) (r : Raw) → IsMember op number descriptor r → TakesMember op descriptor interface
    → NamesConstant pool number (insn.Reference op owner name descriptor interface) → Means pool offsets at r (insn.Reference op owner name descriptor interface)
member_means pool offsets at op number owner name descriptor interface (raw.Reference o n) h takes names = (h.0, rw h.1 names, flag_taken op descriptor interface takes)
member_means pool offsets at op number owner name descriptor interface (raw.Interface n count last) h takes names = (h.0, rw h.1 names, h.2, h.3)
member_means pool offsets at op number owner name descriptor interface _ h takes names = absurd h

-- a load's too
pub load_written : (pool : List PoolEntry) (offsets : List ℕ) (at op number : ℕ) (value : Const) → IsLeast pool value number → IsWritten pool offsets at (raw.Load (load_opcode op number) number) (insn.Load op value)
load_written pool offsets at op number value least = (nat_lt 255 number, λ _. long (nat_lt 255 number) refl, (refl, (least.names, tt)))
  where
    long : (b : Bool) → nat_lt 255 number ≡ b → IsLong pool value b
    long true e = λ h. let le : number ≤ h.0 = least.least h.0 h.1 in let lt : h.0 < 256 = h.2 in absurd (grind (arith, nat_tests))
    long false e = (number, least.names, grind (arith, nat_tests))

-- the least number of the constant of an instruction names it
pub least_names : (pool : List PoolEntry) (number : ℕ) (i : Insn) → AllByRecursion (λ c. IsLeast pool c number) (constants_in i) → NamesConstant pool number i
least_names pool number i h = AllByRecursion-map (λ c. IsLeast pool c number) (λ c. constant_of pool number ≡ Some c) (constants_in i) (λ c least. least.names) h

-- what a switch means depends on its parts alone
pub table_means : (pool : List PoolEntry) (offsets : List ℕ) (at : ℕ) (r : Raw) (low_was low : ℤ) (other : ℕ) (targets_were tos : List ℕ) → low_was ≡ low → targets_were ≡ tos
    → Means pool offsets at r (insn.Table low_was other targets_were) → Means pool offsets at r (insn.Table low other tos)
table_means pool offsets at r low_was low other targets_were tos e same h =
    subst (λ (z : ℤ). Means pool offsets at r (insn.Table z other tos)) e (subst (λ (z : List ℕ). Means pool offsets at r (insn.Table low_was other z)) same h)

pub lookup_means : (pool : List PoolEntry) (offsets : List ℕ) (at : ℕ) (r : Raw) (other : ℕ) (cases_were cases : List Case) → cases_were ≡ cases → Means pool offsets at r (insn.Lookup other cases_were) → Means pool offsets at r (insn.Lookup other cases)
lookup_means pool offsets at r other cases_were cases same h = subst (λ (z : List Case). Means pool offsets at r (insn.Lookup other z)) same h
