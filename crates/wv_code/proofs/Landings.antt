-- Distances that lead to instructions, as a loop goes over them.
use Rattle.std.proofs.Common.{ℕ, ◌+◌, ◌<◌, ℤ, List, [], ◌∷◌, ◌++◌, length, get_or, take, refl, sym, subst}
use Rattle.std.proofs.lemmas.List.{take_more}
use Rattle.wv_base.specs.declared.insn.Case.{Case}
use Rattle.wv_insn.specs.declared.raw.RawCase.{RawCase}
use Rattle.wv_code.specs.Meaning.{Leads, AllLead, AllCasesLead}
use Rattle.wv_code.proofs.Leading.{lead_push, case_push}

pub land_on : (offsets : List ℕ) (at : ℕ) (distances : List ℤ) (k : ℕ) (d : ℤ) (found : List ℕ) (to : ℕ) → k < length distances → AllLead offsets at (take k distances) found → Leads offsets at (get_or distances k d) to
    → AllLead offsets at (take (k + 1) distances) (found ++ to ∷ [])
land_on offsets at distances k d found to lt h leads =
    subst (λ (front : List ℤ). AllLead offsets at front (found ++ to ∷ [])) (sym (take_more distances k d lt)) (lead_push offsets at (take k distances) found (get_or distances k d) to h leads)

pub cases_land_on : (offsets : List ℕ) (at : ℕ) (raws : List RawCase) (k : ℕ) (d : RawCase) (found : List Case) (to : ℕ) → k < length raws → AllCasesLead offsets at (take k raws) found → Leads offsets at (get_or raws k d).offset to
    → AllCasesLead offsets at (take (k + 1) raws) (found ++ record { key = (get_or raws k d).key; to = to } ∷ [])
cases_land_on offsets at raws k d found to lt h leads =
    let raw : RawCase = get_or raws k d in
    let case : Case = record { key = raw.key; to = to } in
    subst (λ (front : List RawCase). AllCasesLead offsets at front (found ++ case ∷ [])) (sym (take_more raws k d lt)) (case_push offsets at (take k raws) found raw case h refl leads)
