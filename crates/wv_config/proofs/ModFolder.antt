-- The folder of a mod by the path of its description.
use Rattle.std.proofs.Common.{◌≡◌, ◌≢◌, inl, inr, ℕ, ◌-◌, Bool, true, List, [], ◌++◌, length, take, codes, Option, None, Some, MatchOption, refl, ap, sym, ◌∙◌, arith, append_assoc, length-append}
use Rattle.std.specs.Borrow.{Bor}
use Rattle.std.specs.List.{ends_with}
use Rattle.std.specs.Prelude.{nat_eq, if◌then◌else◌}
use Rattle.std.specs.Str.Pattern.{FindsTextSuffix, StripsSuffix}
use Rattle.std.proofs.lemmas.Bool.{cases_Bool}
use Rattle.std.proofs.lemmas.Bool.Decides.{Decides-eqb}
use Rattle.std.proofs.lemmas.Slice.Eq.{ends_is}
use Rattle.std.proofs.Math.Seq.{take-append_seam}
use Rattle.wv_resolve.specs.Discovery.{description_path}
use Rattle.wv_config.specs.Naming.{description_name, folder_of}

-- where the path ends with the name, the folder is what stands before it
pub folder-before : (path folder : List ℕ) → path ≡ folder ++ description_name → folder_of path ≡ folder
folder-before path folder e =
    let ending : ends_with nat_eq path description_name ≡ true = (ends_is Decides-eqb path description_name _ refl).1 folder e in
    let long : length path - length description_name ≡ length folder = omega (arith, ap length e, length-append folder description_name) in
    ap (λ (b : Bool). if b then take (length path - length description_name) path else []) ending
    ∙ ap (λ k. take k path) long
    ∙ ap (take (length folder)) e
    ∙ take-append_seam folder description_name

-- and else it is empty
pub folder-none : (path : List ℕ) → ((front : List ℕ) → path ≢ front ++ description_name) → folder_of path ≡ []
folder-none path none = elim (cases_Bool (ends_with nat_eq path description_name)) [
  | inl e ↦ absurd (none (take (length path - length description_name) path) ((ends_is Decides-eqb path description_name _ refl).0 e))
  | inr e ↦ ap (λ (b : Bool). if b then take (length path - length description_name) path else []) e
]

-- what taking the name off the end answers
pub stripped : (path : List ℕ) (r : Option (Bor (List ℕ))) → MatchOption r (FindsTextSuffix description_name path None) (λ x. StripsSuffix (FindsTextSuffix description_name) path x.now) → MatchOption r (folder_of path ≡ []) (λ x. folder_of path ≡ x.now)
stripped path None h = folder-none path h
stripped path (Some x) h = folder-before path x.now (h.1.1 ∙ ap (λ front. front ++ description_name) (sym h.2))

pub folder-of_description : (name : List ℕ) → folder_of (description_path name) ≡ codes "mods/" ++ name ++ codes "/"
folder-of_description name = folder-before (description_path name) (codes "mods/" ++ name ++ codes "/") (ap (λ rest. codes "mods/" ++ rest) (sym (append_assoc name (codes "/") description_name)))
