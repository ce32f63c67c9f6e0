-- The mods of a folder are loaded in one way, or one rule is the first that it breaks.
use Rattle.std.proofs.Common.{◌≡◌, ℕ, List, Some, ap, sym, ◌∙◌, subst}
use Rattle.wv_base.specs.declared.broken.Broken.{Broken}
use Rattle.wv_base.specs.declared.rule.Rule.{Rule}
use Rattle.wv_base.specs.declared.rule.Rule.TheVariants.{ModMissing, ModBad, IdBad, NestedJars, PredicateBad, DuplicateId, DependsUnmet, BreaksMet}
use Rattle.wv_base.specs.declared.side.Side.{Side}
use Rattle.wv_base.specs.Folder.{File, content_of}
use Rattle.wv_mod.specs.declared.mod_info.ModInfo.{ModInfo}
use Rattle.wv_mod.specs.Flaw.{IsFlawOf, broken_of}
use Rattle.wv_mod.proofs.OneFlaw.{one-flaw}
use Rattle.wv_resolve.specs.Resolution.{AreResolved}
use Rattle.wv_resolve.specs.Discovery.{LacksDescription, HasFlaw, BreaksRule, IsFirstBroken, AreLoadedMods, mod_rules, missing}
use Rattle.wv_resolve.proofs.Discovering.{together-one}
use Rattle.wv_resolve.proofs.FirstRule.{IsOneAt, one-first_of}
use Rattle.wv_resolve.proofs.OneAnswer.{one-resolved}
use Rattle.wv_resolve.proofs.OneMods.{one-mods}

file-of : (broken other : Broken) → broken ≡ other → broken.place.file ≡ other.place.file
file-of broken other e = ap (λ (b : Broken). b.place.file) e

lacks-one : (folder : List File) → IsOneAt (LacksDescription folder)
lacks-one folder broken other (path, needs, lacks, told) (path', needs', lacks', told') same =
    told ∙ ap missing (sym (file-of broken (missing path) told) ∙ same ∙ file-of other (missing path') told') ∙ sym told'

some-same : (x y : List ℕ) → Some x ≡ Some y → x ≡ y
some-same x y e = cc

flaw-one : (folder : List File) (rule : Rule) → IsOneAt (HasFlaw folder rule)
flaw-one folder rule broken other (file, has, flaw, is, told, of) (file', has', flaw', is', told', of') same =
    let paths : file.0 ≡ file'.0 = sym (file-of broken (broken_of file.0 flaw) told) ∙ same ∙ file-of other (broken_of file'.0 flaw') told' in
    let contents : file.1 ≡ file'.1 = some-same file.1 file'.1 (sym has.1 ∙ ap (λ p. content_of p folder) paths ∙ has'.1) in
    let flaws = one-flaw file'.1 flaw flaw' (subst (λ (c : List ℕ). IsFlawOf c flaw) contents is) is' in
    told ∙ ap (λ p. broken_of p flaw) paths ∙ ap (broken_of file'.0) flaws ∙ sym told'

rule-one : (builtin : List (List ℕ × List ℕ)) (folder : List File) (side : Side) (rule : Rule) → IsOneAt (BreaksRule builtin folder side rule)
rule-one builtin folder side ModMissing broken other g h same = lacks-one folder broken other g h same
rule-one builtin folder side ModBad broken other g h same = flaw-one folder ModBad broken other g h same
rule-one builtin folder side IdBad broken other g h same = flaw-one folder IdBad broken other g h same
rule-one builtin folder side NestedJars broken other g h same = flaw-one folder NestedJars broken other g h same
rule-one builtin folder side PredicateBad broken other g h same = flaw-one folder PredicateBad broken other g h same
rule-one builtin folder side DuplicateId broken other g h same = together-one builtin folder side DuplicateId DuplicateId broken other g h
rule-one builtin folder side DependsUnmet broken other g h same = together-one builtin folder side DependsUnmet DependsUnmet broken other g h
rule-one builtin folder side BreaksMet broken other g h same = together-one builtin folder side BreaksMet BreaksMet broken other g h
rule-one builtin folder side _ broken other g h same = absurd g

pub one-first : (builtin : List (List ℕ × List ℕ)) (folder : List File) (side : Side) (broken other : Broken) → IsFirstBroken builtin folder side broken → IsFirstBroken builtin folder side other → broken ≡ other
one-first builtin folder side broken other g h = one-first_of (BreaksRule builtin folder side) (rule-one builtin folder side) mod_rules broken other g h

pub one-loaded_mods : (builtin : List (List ℕ × List ℕ)) (folder : List File) (side : Side) (loaded other : List ModInfo) → AreLoadedMods builtin folder side loaded → AreLoadedMods builtin folder side other → loaded ≡ other
one-loaded_mods builtin folder side loaded other (mods, are, fit) (mods', are', fit') =
    one-resolved builtin mods' loaded other (subst (λ (ms : List ModInfo). AreResolved builtin ms loaded) (one-mods folder side mods mods' are are') fit) fit'
