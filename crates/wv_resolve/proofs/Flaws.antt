-- What descriptions say, as they are read in turn: what their mods are, or the first rule that they break.
use Rattle.std.proofs.Common.{◌≡◌, ◌⊎◌, inl, inr, ℕ, ◌+◌, ◌<◌, ◌≤◌, List, [], ◌∷◌, ◌++◌, length, get_or, take, All, Result, Ok, Err, IfOk, IfErr, MatchResult, Option, Some, None, MatchOption, IfSome, IsSomeAnd, ap, sym, ◌∙◌, subst, arith}
use Rattle.std.specs.List.{AllZip}
use Rattle.std.proofs.lemmas.List.Elements.{All-contains, All-from_recursion}
use Rattle.std.proofs.lemmas.List.Quantifiers.{Any-push}
use Rattle.wv_base.specs.declared.broken.Broken.{Broken}
use Rattle.wv_base.specs.declared.side.Side.{Side}
use Rattle.wv_base.specs.Folder.{IsPathBefore}
use Rattle.wv_base.specs.Rule.{number_of}
use Rattle.wv_mod.specs.declared.fault.Flaw.{Flaw}
use Rattle.wv_mod.specs.declared.mod_info.ModInfo.{ModInfo}
use Rattle.wv_mod.specs.Flaw.{IsFlawOf, broken_of}
use Rattle.wv_mod.proofs.OneFlaw.{one-flaw, mod-no_flaw}
use Rattle.wv_mod.proofs.Relating.{relates-each}
use Rattle.wv_resolve.specs.declared.discovery.Description.{Description}
use Rattle.wv_resolve.specs.declared.discovery.Reading.{Reading}
use Rattle.wv_resolve.specs.Finding.{Describes, IsFlawAmong, IsBrokenBefore, IsFirstFlaw, IsReadingOf}
use Rattle.wv_resolve.proofs.Folders.{any-push_cases}
use Rattle.wv_resolve.proofs.Lists.{any-append, front-more}
use Rattle.wv_resolve.proofs.Paths.{not-before_itself, not-both_before}

-- ---- One description

-- the rule that a description breaks
abbrev pub IsFlawIn : Description → Broken → Type 0
IsFlawIn description broken = (flaw : Flaw) × IsFlawOf description.bytes.now flaw × (broken ≡ broken_of description.path flaw)

pub one-flaw_in : (description : Description) (broken other : Broken) → IsFlawIn description broken → IsFlawIn description other → broken ≡ other
one-flaw_in description broken other g h =
    g.2 ∙ ap (broken_of description.path) (one-flaw description.bytes.now g.0 h.0 g.1 h.1) ∙ sym h.2

pub path-flaw : (description : Description) (broken : Broken) → IsFlawIn description broken → broken.place.file ≡ description.path
path-flaw description broken h = ap (λ (b : Broken). b.place.file) h.2

pub mod-not_flawed : (side : Side) (description : Description) (info : ModInfo) (broken : Broken) → Describes side description info → IsFlawIn description broken → ⊥
mod-not_flawed side description info broken h flawed = mod-no_flaw description.path description.bytes.now side info flawed.0 h flawed.1

pub not-before_self : (broken : Broken) → IsBrokenBefore broken broken → ⊥
not-before_self broken (inl less) = omega arith
not-before_self broken (inr same) = not-before_itself broken.place.file same.1

-- ---- All so far

-- where each says what its mod is, none is flawed
pub none-among : (side : Side) (descriptions : List Description) (mods : List ModInfo) (broken : Broken) → AllZip (Describes side) descriptions mods → IsFlawAmong descriptions broken → ⊥
none-among side descriptions mods broken zip (k, d, inside, at, flawed) =
    All-contains (λ d. (b : Broken) → IsFlawIn d b → ⊥) descriptions d
    (All-from_recursion (λ d. (b : Broken) → IsFlawIn d b → ⊥) descriptions (relates-each (Describes side) (λ d. (b : Broken) → IsFlawIn d b → ⊥) (λ d info h b. mod-not_flawed side d info b h) descriptions mods zip))
    (k, inside, at) broken flawed

zip-push : {A B : Type 0} (R : A → B → Type 0) (xs : List A) (ys : List B) (x : A) (y : B) → AllZip R xs ys → R x y → AllZip R (xs ++ x ∷ []) (ys ++ y ∷ [])
zip-push R [] [] x y h one = (one, tt)
zip-push R [] (z ∷ ys) x y h one = absurd h
zip-push R (w ∷ xs) [] x y h one = absurd h
zip-push R (w ∷ xs) (z ∷ ys) x y h one = (h.0, zip-push R xs ys x y h.1 one)

module _ (side : Side) (done : List Description) (next : Description) where
  abbrev More : List Description
  More = done ++ next ∷ []

  cases : (broken : Broken) → IsFlawAmong More broken → IsFlawAmong done broken ⊎ IsFlawIn next broken
  cases broken h = any-push_cases (λ d. IsFlawIn d broken) done next h

  -- one that says what its mod is
  pub read-mod : (first : Option Broken) (mods : List ModInfo) (info : ModInfo) → MatchOption first (AllZip (Describes side) done mods) (IsFirstFlaw done) → Describes side next info → MatchOption first (AllZip (Describes side) More (mods ++ info ∷ [])) (IsFirstFlaw More)
  read-mod None mods info h says = zip-push (Describes side) done mods next info h says
  read-mod (Some broken) mods info h says = record {
    here = any-append (λ d. IsFlawIn d broken) done (next ∷ []) h.here;
    first = λ other among before. elim (cases other among) [
      | inl earlier ↦ h.first other earlier before
      | inr here ↦ mod-not_flawed side next info other says here
    ];
  }

  module _ (broken : Broken) (flawed : IsFlawIn next broken) where
    not-before_new : (other : Broken) → IsFlawIn next other → IsBrokenBefore other broken → ⊥
    not-before_new other here before = not-before_self broken (subst (λ (b : Broken). IsBrokenBefore b broken) (one-flaw_in next other broken here flawed) before)

    lesser : (other first : Broken) → number_of broken.rule < number_of first.rule → IsBrokenBefore other broken → IsBrokenBefore other first
    lesser other first less (inl before) = inl (omega arith)
    lesser other first less (inr same) = let equal = same.0 in inl (omega arith)

    -- one that breaks a rule with a smaller number than any so far
    pub read-first : (first : Option Broken) (mods : List ModInfo) → MatchOption first (AllZip (Describes side) done mods) (IsFirstFlaw done) → IfSome first (λ f. number_of broken.rule < number_of f.rule) → IsFirstFlaw More broken
    read-first None mods h less = record {
      here = Any-push (λ d. IsFlawIn d broken) done next flawed;
      first = λ other among before. elim (cases other among) [
        | inl earlier ↦ none-among side done mods other h earlier
        | inr here ↦ not-before_new other here before
      ];
    }
    read-first (Some first) mods h less = record {
      here = Any-push (λ d. IsFlawIn d broken) done next flawed;
      first = λ other among before. elim (cases other among) [
        | inl earlier ↦ h.first other earlier (lesser other first less before)
        | inr here ↦ not-before_new other here before
      ];
    }

    -- one that breaks a rule with no smaller number
    pub read-later : (first : Option Broken) (mods : List ModInfo) → All (λ d. IsPathBefore d.path next.path) done → MatchOption first (AllZip (Describes side) done mods) (IsFirstFlaw done) → IsSomeAnd first (λ f. number_of f.rule ≤ number_of broken.rule) → MatchOption first (AllZip (Describes side) More mods) (IsFirstFlaw More)
    read-later None mods behind h most = absurd most
    read-later (Some first) mods behind h most = record {
      here = any-append (λ d. IsFlawIn d first) done (next ∷ []) h.here;
      first = λ other among before. elim (cases other among) [
        | inl earlier ↦ h.first other earlier before
        | inr here ↦ later (subst (λ (b : Broken). IsBrokenBefore b first) (one-flaw_in next other broken here flawed) before)
      ];
    }
      where
        earlier_path : IsPathBefore first.place.file broken.place.file
        earlier_path =
            let at = h.here in
            subst (λ (p : List ℕ). IsPathBefore p broken.place.file) (sym (path-flaw at.1 first at.4))
            (subst (IsPathBefore at.1.path) (sym (path-flaw next broken flawed)) (All-contains (λ (d : Description). IsPathBefore d.path next.path) done at.1 behind (at.0, at.2, at.3)))

        later : IsBrokenBefore broken first → ⊥
        later (inl less) = omega arith
        later (inr same) = not-both_before first.place.file broken.place.file earlier_path same.1

-- ---- The loop over the descriptions

pub match-both : {A E : Type 0} (r : Result A E) (P : A → Type 0) (Q : E → Type 0) → IfOk r P → IfErr r Q → MatchResult r P Q
match-both (Ok x) P Q h k = h
match-both (Err e) P Q h k = k

pub read-more : (side : Side) (descriptions : List Description) (i : ℕ) (next : Description) (reading : Reading) → i < length descriptions → next ≡ get_or descriptions i next → IsReadingOf side (take i descriptions ++ next ∷ []) reading → IsReadingOf side (take (i + 1) descriptions) reading
read-more side descriptions i next reading inside at h =
    subst (λ (ds : List Description). IsReadingOf side ds reading) (sym (front-more descriptions i next inside at)) h
